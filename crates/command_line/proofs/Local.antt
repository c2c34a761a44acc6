-- Arguments that no subcommand gets.
use Rattle.std.proofs.Common.{◌≡◌, ◌∙◌, ap, true, false}
use Rattle.std.specs.Prelude.{is_some, not}
use Rattle.clap.proofs.SimpleLemmas.{is_false}
use Rattle.clap.proofs.WalkLemmas.{both}
use Rattle.clap.specs.Walk.{is_empty, is_simple_arg}
use Rattle.clap.specs.Words.{Rule, rule_of}
use Rattle.clap.specs.declared.builder.arg.Arg.{Arg}

-- an argument that uses none of the settings that change how words are read
simple_is_local : (a : Arg) → is_simple_arg a ≡ true → a.global ≡ false
simple_is_local a e =
    let p = both (is_empty a.overrides.items) _ e in
    let q = both (is_empty a.default_vals_ifs.items) _ p.1 in
    let r = both (is_empty a.groups.items) _ q.1 in
    let s = both (not (is_some a.val_delim)) _ r.1 in
    let t = both (not (is_some a.terminator)) _ s.1 in
    let u = both (not a.allow_hyphen_values) _ t.1 in
    let v = both (not a.allow_negative_numbers) _ u.1 in
    let w = both (not a.require_equals) _ v.1 in
    let x = both (not a.last) _ w.1 in
    is_false a.global x.1

pub is_local : (a : Arg) (r : Rule) → rule_of a ≡ r → r.is_simple ≡ true → a.global ≡ false
is_local a r is simple = simple_is_local a (ap (λ (q : Rule). q.is_simple) is ∙ simple)
