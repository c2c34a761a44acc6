use Rattle.std.proofs.Common.{◌++◌, ◌∷◌, [], ℕ, List, length, sym, ap, ◌∙◌, subst}
use Rattle.http_head.specs.Responses.{chunk_line}
use Rattle.http_head.proofs.Chunks.{in_parts}
use Rattle.http_door.specs.Turns.{Sends}
use Rattle.http_door.proofs.send.send_chunk.Goals as goal

pub returns-in-Ok-clause-sent : goal.returns-in-Ok-clause-sent
returns-in-Ok-clause-sent g c =
    let text = c.args.text.now in
    let line = text ++ 13 ∷ 10 ∷ [] in
    let did = c.send_parts.ensures.sent in (
      did.0,
      g.met.O.Outlet.writes_more _ _ _ _ _ c.begin_text.ensures.unwritten did.1,
      subst (λ (t : List ℕ). Sends c.send_parts.result t did.0)
          (ap (λ (t : List ℕ). t ++ (c.as_bytes-in-Ok.result.now ++ line)) (c.as_bytes.ensures.value ∙ c.in-Ok.ensures.chunk)
          ∙ ap (λ (t : List ℕ). chunk_line (length text) ++ (t ++ line)) (c.as_bytes-in-Ok.ensures.value ∙ c.in-Ok.ensures.record)
          ∙ sym (in_parts text))
          did.2,
    )
