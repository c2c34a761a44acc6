use Rattle.std.proofs.Common.{◌≡◌, ◌<◌, ◌≤◌, List, ℕ, nat_le, Bool, true, false, Option, Some, None, Err, cond, refl, ◌∙◌, arith}
use Rattle.std.proofs.lemmas.Str.{is_utf8-from_IsUtf8, IsUtf8-from_is_utf8}
use Rattle.std.proofs.lemmas.Bool.{cond_both, false≢true}
use Rattle.std.proofs.lemmas.Bool.Decides.{nat_tests}
use Rattle.std.specs.Str.{is_utf8, IsUtf8}
use Rattle.serde_json.specs.Data.{Data, depth}
use Rattle.serde_json.specs.Read.{max_depth, read}
use Rattle.serde_json.specs.View.{view}
use Rattle.call_json.specs.Calls.{call_of, call_in, nested_call, read_json}
use Rattle.call_json.specs.declared.members.fault.Refusal.TheVariants.{NotJson}
use Rattle.call_json.proofs.read.read_json.Goals as goal

read_it : (bytes : List ℕ) (d : Data) → IsUtf8 bytes → read bytes ≡ Some d → read_json bytes ≡ call_of d
unfolding read_json
read_it bytes d utf8 e = rw (is_utf8-from_IsUtf8 bytes utf8, e) refl

nested : (d : Data) → depth d ≤ max_depth → call_of d ≡ nested_call d
unfolding call_of
nested d h = cond_both (nat_le (depth d) max_depth) (nested_call d) (Err NotJson) (λ r. r ≡ nested_call d) (λ e. refl) (λ e. absurd (let above : max_depth < depth d = grind (arith, nat_tests) in omega arith))

refused_by : (b : Bool) (o : Option Data) → (b ≡ true → o ≡ None) → call_in (cond b o None) ≡ Err NotJson
refused_by true o h = rw (h refl) refl
refused_by false o h = refl

refused : (bytes : List ℕ) → (IsUtf8 bytes → read bytes ≡ None) → read_json bytes ≡ Err NotJson
unfolding read_json
refused bytes h = refused_by (is_utf8 bytes) (read bytes) (λ e. h (IsUtf8-from_is_utf8 bytes e))

pub returns-in-Ok : goal.returns-in-Ok
returns-in-Ok c = rw (read_it c.args.bytes.now (view c.in-Ok.value) c.in-Ok.ensures.ok.0 c.in-Ok.ensures.ok.1 ∙ nested (view c.in-Ok.value) c.in-Ok.ensures.nests) c.nested_call.ensures

pub returns-else-is_memory : goal.returns-else-is_memory
returns-else-is_memory c = refused c.args.bytes.now (c.in-Err.ensures.err (λ m. false≢true (c.if-is_memory.ensures.1 m)))
