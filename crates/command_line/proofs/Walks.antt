-- What each use of an argument keeps of the rows, a walk over words without a fault keeps.
use Rattle.std.proofs.Common.{◌≡◌, ◌&&◌, ℕ, Bool, cond, true, false, zero, suc, refl, List, [], ◌∷◌, length, drop, Option, Some, None, is_some}
use Rattle.std.specs.Prelude.{IfSome, encode_utf8, find, fold, slice_get}
use Rattle.std.specs.Option.{option_map_or}
use Rattle.std.specs.Str.{bytes_eq, chars}
use Rattle.clap.specs.Lexer.{long_of, short_of}
use Rattle.clap.specs.Walk.{Held, Names, Outcome, Row, Rule, Step, Text, Waiting, Walk, after_flag, after_step, arg_by_id, arg_by_index, arg_by_long, arg_by_short, attached_value, bundle_met, bundle_step, done, flag_met, idle, is_pending, long_met, long_or_other, next, option, option_met, option_word, plain, plain_word, positional, reacted, refused, settled, settled_rows, short_met, short_or_plain, subcommand, subcommand_met, subcommand_or_other, takes_several, takes_values, to_positional, trailing, used, used_by_id, value, waits, walked, walked_from, word_met}
use Rattle.clap.specs.Simple.{Shape}
use Rattle.clap.specs.Kinds.{Kinds, or_else}
use Rattle.clap.specs.Faults.{bundle_step_fault, flag_word_fault, flags_fault, long_fault, option_fault, other_fault, positional_fault, react_fault, settle_fault, short_fault, step_fault, stray_fault, turn_fault, use_fault, walk_fault, word_fault}
use Rattle.clap.specs.declared.error.kind.ErrorKind.TheVariants as kind

-- P holds of each element
abbrev pub Each : {X : Type 0} → (X → Type 0) → List X → Type 0
Each P [] = Unit {0}
Each P (x ∷ xs) = P x × Each P xs

pub find_each : {X : Type 0} (P : X → Type 0) (p : X → Bool) (xs : List X) → Each P xs → IfSome (find p xs) P
find_each P p [] e = tt
find_each P p (x ∷ xs) e = go (p x) (find_each P p xs e.1)
  where
    go : (b : Bool) → IfSome (find p xs) P → IfSome (cond b (Some x) (find p xs)) P
    go true rest = e.0
    go false rest = rest

-- where two steps have no fault, neither has one
pub neither : (a b : Kinds) → or_else a b ≡ [] → (a ≡ []) × (b ≡ [])
neither [] b e = (refl, e)
neither (k ∷ ks) b e = cc

-- the subcommand at which a step stops has S
abbrev Named : (Text → Type 0) → Step → Type 0
Named S (subcommand name) = S name
Named S _ = Unit {0}

plain_named : (S : Text → Type 0) (c : List Rule) (waiting : Waiting) (word : Text) (h : Held) → Named S (plain_word c waiting word h).1
plain_named S c idle word h = tt
plain_named S c positional word h = tt
plain_named S c (option id) word h = tt

after_flag_named : (S : Text → Type 0) (c : List Rule) (waiting : Waiting) (word : Text) (h : Held) (o : Outcome) → Named S (after_flag c waiting word h o).1
after_flag_named S c waiting word h done = tt
after_flag_named S c waiting word h (waits id) = tt
after_flag_named S c waiting word h plain = plain_named S c waiting word h
after_flag_named S c waiting word h refused = plain_named S c waiting word h

flag_named : (S : Text → Type 0) (c : List Rule) (waiting : Waiting) (word : Text) (o : Option (Text × Option Text)) (h : Held) → Named S (long_or_other c waiting word o h).1
flag_named S c waiting word (Some p) h = after_flag_named S c waiting word _ _
flag_named S c waiting word None h = go (short_of word)
  where
    go : (o : Option Text) → Named S (short_or_plain c waiting word o h).1
    go (Some flags) = after_flag_named S c waiting word _ _
    go None = plain_named S c waiting word h

module _ (s : Shape) (Q : Rule → Type 0) (P : List Row → Type 0) (S : Text → Type 0) (each : Each Q s.rules)
    (by_use : (a : Rule) (values : List Text) (rows : List Row) → Q a → use_fault s.args_override_self a values rows ≡ [] → P rows → P (used a values rows))
    (by_name : (name word : Text) (h : Held) → other_fault s (Some name) word h ≡ [] → S name) where
  settled_keeps : (h : Held) → settle_fault s.rules s.args_override_self h ≡ [] → P h.rows → P (settled s.rules h).rows
  settled_keeps h e k = go h.pending e
    where
      by_id : (o : Option Rule) (values : List Text) → IfSome o Q → option_map_or (λ a. use_fault s.args_override_self a values h.rows) o [] ≡ [] → P (used_by_id o values h.rows)
      by_id None values q e = k
      by_id (Some a) values q e = by_use a values h.rows q e k

      go : (o : Option (Text × List Text)) → option_map_or (λ p. option_map_or (λ a. use_fault s.args_override_self a p.1 h.rows) (arg_by_id s.rules p.0) []) o [] ≡ []
          → P (settled_rows s.rules o h.rows)
      go None e = k
      go (Some p) e = by_id (arg_by_id s.rules p.0) p.1 (find_each Q _ s.rules each) e

  reacted_keeps : (a : Rule) (values : List Text) (h : Held) → Q a → react_fault s.rules s.args_override_self a values h ≡ [] → P h.rows → P (reacted s.rules a values h).rows
  reacted_keeps a values h q e k =
      let none = neither _ _ e in
      by_use a values (settled s.rules h).rows q none.1 (settled_keeps h none.0 k)

  option_keeps : (a : Rule) (v : Option Text) (h : Held) → Q a → option_fault s.rules s.args_override_self a v h ≡ [] → P h.rows → P (option_met s.rules a v h).0.rows
  option_keeps a (Some v) h q e k = reacted_keeps a (v ∷ []) h q e k
  option_keeps a None h q e k = settled_keeps h e k

  long_keeps : (o : Option Rule) (v : Option Text) (h : Held) → IfSome o Q → long_fault s.rules s.args_override_self o v h ≡ [] → P h.rows → P (long_met s.rules o v h).0.rows
  long_keeps None v h q e k = k
  long_keeps (Some a) v h q e k = go (takes_values a) v e
    where
      go : (b : Bool) (v : Option Text)
          → cond b (option_fault s.rules s.args_override_self a v h) (cond (is_some v) (kind.TooManyValues ∷ []) (react_fault s.rules s.args_override_self a [] h)) ≡ []
          → P (cond b (option_met s.rules a v h) (flag_met s.rules a v h)).0.rows
      go true v e = option_keeps a v h q e k
      go false (Some v) e = k
      go false None e = reacted_keeps a [] h q e k

  short_keeps : (o : Option Rule) (rest : Text) (h : Held) (fault : Held → Kinds) (after : Held → Held × Outcome) → IfSome o Q
      → ((g : Held) → fault g ≡ [] → P g.rows → P (after g).0.rows)
      → short_fault s.rules s.args_override_self o rest h fault ≡ [] → P h.rows → P (short_met s.rules o rest h after).0.rows
  short_keeps None rest h fault after q ih e k = k
  short_keeps (Some a) rest h fault after q ih e k = go (takes_values a) e
    where
      go : (b : Bool)
          → cond b (option_fault s.rules s.args_override_self a (attached_value rest) h) (or_else (react_fault s.rules s.args_override_self a [] h) (fault (reacted s.rules a [] h))) ≡ []
          → P (cond b (option_met s.rules a (attached_value rest) h) (after (reacted s.rules a [] h))).0.rows
      go true e = option_keeps a (attached_value rest) h q e k
      go false e =
          let none = neither _ _ e in
          ih (reacted s.rules a [] h) none.1 (reacted_keeps a [] h q none.0 k)

  bundle_step_keeps : (o : Option ℕ) (flags : Text) (skip : ℕ) (so_far : Outcome) (h : Held) (fault : Text → ℕ → Held → Kinds) (after : Text → ℕ → Outcome → Held → Held × Outcome)
      → ((flags : Text) (skip : ℕ) (so_far : Outcome) (g : Held) → fault flags skip g ≡ [] → P g.rows → P (after flags skip so_far g).0.rows)
      → bundle_step_fault s.rules s.args_override_self o flags skip h fault ≡ [] → P h.rows → P (bundle_step s.rules o flags skip so_far h after).0.rows
  bundle_step_keeps None flags skip so_far h fault after ih e k = k
  bundle_step_keeps (Some x) flags zero so_far h fault after ih e k =
      let rest = drop (length (encode_utf8 x)) flags in
      short_keeps (arg_by_short s.rules x) rest h (fault rest 0) (after rest 0 done) (find_each Q _ s.rules each) (ih rest 0 done) e k
  bundle_step_keeps (Some x) flags (suc skip) so_far h fault after ih e k = ih (drop (length (encode_utf8 x)) flags) skip so_far h e k

  bundle_keeps : (n : ℕ) (flags : Text) (skip : ℕ) (so_far : Outcome) (h : Held) → flags_fault s.rules s.args_override_self n flags skip h ≡ [] → P h.rows
      → P (bundle_met s.rules n flags skip so_far h).0.rows
  unfolding flags_fault bundle_met
  bundle_keeps zero flags skip so_far h e k = k
  bundle_keeps (suc n) flags skip so_far h e k =
      bundle_step_keeps (slice_get (chars flags) 0) flags skip so_far h (flags_fault s.rules s.args_override_self n) (bundle_met s.rules n) (bundle_keeps n) e k

  plain_keeps : (waiting : Waiting) (word : Text) (h : Held) → P h.rows → P (plain_word s.rules waiting word h).0.rows
  plain_keeps idle word h k = k
  plain_keeps positional word h k = k
  plain_keeps (option id) word h k = go (arg_by_id s.rules id)
    where
      go : (o : Option Rule) → P (option_word o id word h).0.rows
      go None = k
      go (Some a) = k

  after_flag_keeps : (waiting : Waiting) (word : Text) (h : Held) (o : Outcome) → P h.rows → P (after_flag s.rules waiting word h o).0.rows
  after_flag_keeps waiting word h done k = k
  after_flag_keeps waiting word h (waits id) k = k
  after_flag_keeps waiting word h plain k = plain_keeps waiting word h k
  after_flag_keeps waiting word h refused k = plain_keeps waiting word h k

  flag_word_keeps : (waiting : Waiting) (word : Text) (o : Option (Text × Option Text)) (h : Held) → flag_word_fault s.rules s.args_override_self o word h ≡ [] → P h.rows
      → P (long_or_other s.rules waiting word o h).0.rows
  flag_word_keeps waiting word (Some p) h e k =
      after_flag_keeps waiting word _ _ (long_keeps (arg_by_long s.rules p.0) p.1 h (find_each Q _ s.rules each) e k)
  flag_word_keeps waiting word None h e k = go (short_of word) e
    where
      go : (o : Option Text) → option_map_or (λ flags. flags_fault s.rules s.args_override_self (length flags) flags h.skip (record h { skip = 0 })) o [] ≡ []
          → P (short_or_plain s.rules waiting word o h).0.rows
      go (Some flags) e = after_flag_keeps waiting word _ _ (bundle_keeps (length flags) flags h.skip plain (record h { skip = 0 }) e k)
      go None e = plain_keeps waiting word h k

  word_keeps : (names : Names) (is_trailing : Bool) (waiting : Waiting) (position : ℕ) (word : Text) (h : Held) → word_fault s names is_trailing waiting word h ≡ [] → P h.rows
      → P (word_met s.rules names is_trailing waiting position word h).0.rows × Named S (word_met s.rules names is_trailing waiting position word h).1
  word_keeps names true waiting position word h e k = (k, tt)
  word_keeps names false waiting position word h e k = other (subcommand_met names waiting word) e
    where
      flags : (b : Bool) → cond b [] (flag_word_fault s.rules s.args_override_self (long_of word) word h) ≡ []
          → P (cond b (h, trailing position) (long_or_other s.rules waiting word (long_of word) h)).0.rows
          × Named S (cond b (h, trailing position) (long_or_other s.rules waiting word (long_of word) h)).1
      flags true e = (k, tt)
      flags false e = (flag_word_keeps waiting word (long_of word) h e k, flag_named S s.rules waiting word (long_of word) h)

      other : (o : Option Text) → other_fault s o word h ≡ []
          → P (subcommand_or_other s.rules o waiting position word h).0.rows × Named S (subcommand_or_other s.rules o waiting position word h).1
      other (Some name) e = (k, by_name name word h e)
      other None e = flags (bytes_eq word (45 ∷ 45 ∷ [])) e

  -- what a walk keeps: P of its rows, and S of the subcommand at which it stopped
  abbrev pub Keeps : Walk → Type 0
  Keeps w = P w.held.rows × IfSome w.stopped (λ p. S p.0)

  positional_keeps : (o : Option Rule) (word : Text) (w : Walk) (h : Held)
      → option_map_or (λ a. positional_fault s.rules s.args_override_self a h) o (stray_fault s) ≡ [] → P h.rows → IfSome w.stopped (λ p. S p.0)
      → Keeps (to_positional s.rules o word w h)
  positional_keeps None word w h e k stops = (k, stops)
  positional_keeps (Some a) word w h e k stops = (go (is_pending a h.pending && takes_several a) e, tt)
    where
      go : (b : Bool) → cond b [] (settle_fault s.rules s.args_override_self h) ≡ [] → P (cond b h (settled s.rules h)).rows
      go true e = k
      go false e = settled_keeps h e k

  step_keeps : (word : Text) (w : Walk) (h : Held) (step : Step) → step_fault s w.position h step ≡ [] → P h.rows → Named S step → IfSome w.stopped (λ p. S p.0)
      → Keeps (after_step s.rules word w h step)
  step_keeps word w h (next waiting) e k named stops = (k, stops)
  step_keeps word w h (trailing position) e k named stops = (k, stops)
  step_keeps word w h (subcommand name) e k named stops = (k, named)
  step_keeps word w h value e k named stops = positional_keeps (arg_by_index s.rules w.position) word w h e k stops

  walked_keeps : (names : Names) (w : Walk) (word : Text) → turn_fault s names w word ≡ [] → Keeps w → Keeps (walked s.rules names w word)
  unfolding walked
  walked_keeps names w word e k = go w.stopped e k.1
    where
      go : (o : Option (Text × List Text))
          → cond (is_some o) [] (or_else (word_fault s names w.is_trailing w.waiting word w.held) (step_fault s w.position (word_met s.rules names w.is_trailing w.waiting w.position word w.held).0 (word_met s.rules names w.is_trailing w.waiting w.position word w.held).1)) ≡ []
          → IfSome o (λ p. S p.0) → Keeps (walked_from s.rules names o w word)
      go (Some p) e stops = (k.0, stops)
      go None e stops =
          let none = neither _ _ e in
          let met = word_keeps names w.is_trailing w.waiting w.position word w.held none.0 k.0 in
          step_keeps word w (word_met s.rules names w.is_trailing w.waiting w.position word w.held).0 (word_met s.rules names w.is_trailing w.waiting w.position word w.held).1 none.1 met.0 met.1 k.1

  pub walk_keeps : (names : Names) (words : List Text) (w : Walk) → walk_fault s names w words ≡ [] → Keeps w → Keeps (fold (walked s.rules names) w words)
  unfolding walk_fault
  walk_keeps names [] w e k = k
  walk_keeps names (word ∷ rest) w e k =
      let none = neither _ _ e in
      walk_keeps names rest (walked s.rules names w word) none.1 (walked_keeps names w word none.0 k)

  -- and so does the settling of what is pending at its end
  pub end_keeps : (h : Held) → settle_fault s.rules s.args_override_self h ≡ [] → P h.rows → P (settled s.rules h).rows
  end_keeps = settled_keeps
