use Rattle.std.proofs.Common.{◌<◌, length, sym, ◌∙◌, arith}
use Rattle.std.proofs.lemmas.List.{take_rest}
use Rattle.http_head.proofs.CommaWords.{one_word, word_hits, word_misses}
use Rattle.http_head.proofs.words.has_close.Goals as goal

pub returns-then-is_close : goal.returns-then-is_close
returns-then-is_close c =
    sym (sym c.loop-rest.invariant ∙ word_hits c.loop-rest.rest.now c.find-end.result c.find-end.ensures.place c.find-end.ensures.bound (sym c.is_close.ensures ∙ c.if-is_close.true))

pub returns-then-end-rest : goal.returns-then-end-rest
returns-then-end-rest c =
    sym (sym c.loop-rest.invariant ∙ one_word c.loop-rest.rest.now c.find-end.result c.find-end.ensures.place (omega (arith, c.find-end.ensures.bound, c.if-end-rest.true)) ∙ sym c.is_close.ensures ∙ c.if-is_close.false)

pub loop-rest-preserved : goal.loop-rest-preserved
loop-rest-preserved c =
    let within : c.find-end.result < length c.loop-rest.rest.now = omega (arith, c.if-end-rest.false) in
    rw take_rest (word_misses c.loop-rest.rest.now c.find-end.result c.find-end.ensures.place within (sym c.is_close.ensures ∙ c.if-is_close.false) ∙ c.loop-rest.invariant)
