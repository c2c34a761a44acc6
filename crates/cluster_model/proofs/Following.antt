-- Happenings one after the other.
use Rattle.std.proofs.Common.{◌≡◌, List, [], ◌∷◌, ◌++◌, refl}
use Rattle.cluster_model.specs.Channels.{Happening, World, after, after_all}

pub after_append : (hs more : List Happening) (w : World) → after_all (hs ++ more) w ≡ after_all more (after_all hs w)
after_append [] more w = refl
after_append (h ∷ hs) more w = after_append hs more (after w h)
