use Rattle.std.proofs.Common.{◌≡◌, ◌∷◌, [], take, get_or, ℕ, ◌-◌, List, ◌++◌, arith, ap, ◌∙◌}
use Rattle.frame_record.specs.Firsts.{IsOpenLine}
use Rattle.frame_record.proofs.Firsts.{digits_in_front}
use Rattle.frame_record.proofs.Splitting.{front}
use Rattle.frame_record.proofs.Lines.{all_digits, fault_taken, front_within, open_before, open_more, open_taken, too_long}
use Rattle.frame_record.proofs.first.extend_line.Goals as goal

pub returns-then-count-gt20 : goal.returns-then-count-gt20
returns-then-count-gt20 c =
    let old = c.args.line.now.items in
    let bytes = c.args.bytes.now in
    let within = front_within bytes in
    let n = 21 - c.len-taken.result in
    let is_new : c.extend_from_slice.new.self.items ≡ old ++ take n bytes = c.in_ok-extend_from_slice.ensures.items in
    (omega arith, omega (arith, within, c.count_digits-more.ensures), open_taken old bytes (n - 1) c.requires (omega (arith, c.count_digits-more.ensures)) (omega arith), is_new, rw is_new (too_long old bytes n c.requires (omega arith) (omega (arith, c.count_digits-more.ensures))))

pub returns-in_default : goal.returns-in_default
returns-in_default c =
    let old = c.args.line.now.items in
    let bytes = c.args.bytes.now in
    let k = c.count_digits-more.result in
    let is_k = c.count_digits-more.ensures in
    let digits : c.split_at.result.0.now ≡ front bytes = c.split_at.ensures.front ∙ rw is_k (digits_in_front bytes) in
    let is_new : c.extend_from_slice-2.new.self.items ≡ old ++ front bytes = c.in_ok-extend_from_slice-2.ensures.items ∙ ap (λ (t : List ℕ). old ++ t) digits in
    let all : front bytes ≡ bytes = all_digits bytes k is_k (omega arith) in
    (is_new ∙ ap (λ (t : List ℕ). old ++ t) all, rw is_new (open_more old bytes c.requires (omega (arith, c.count_digits-more.ensures))))

pub size_of-judged-requires : goal.size_of-judged-requires
size_of-judged-requires c =
    let old = c.args.line.now.items in
    let bytes = c.args.bytes.now in
    let is_k = c.count_digits-more.ensures in
    let digits : c.split_at.result.0.now ≡ front bytes = c.split_at.ensures.front ∙ rw is_k (digits_in_front bytes) in
    let is_new : c.deref.result.now ≡ old ++ front bytes = c.deref.ensures.value ∙ (c.in_ok-extend_from_slice-2.ensures.items ∙ ap (λ (t : List ℕ). old ++ t) digits) in
    rw is_new (open_more old bytes c.requires (omega (arith, c.count_digits-more.ensures)))

pub returns-in-Err : goal.returns-in-Err
returns-in-Err c =
    let old = c.args.line.now.items in
    let bytes = c.args.bytes.now in
    let is_k = c.count_digits-more.ensures in
    let digits : c.split_at.result.0.now ≡ front bytes = c.split_at.ensures.front ∙ rw is_k (digits_in_front bytes) in
    let is_line : c.deref.result.now ≡ old ++ front bytes = c.deref.ensures.value ∙ (c.in_ok-extend_from_slice-2.ensures.items ∙ ap (λ (t : List ℕ). old ++ t) digits) in
    let going : IsOpenLine c.deref.result.now = rw is_line (open_more old bytes c.requires (omega (arith, c.count_digits-more.ensures))) in
    let is_new : c.push.new.self.items ≡ c.deref.result.now ++ get_or c.split_at.result.1.now 0 0 ∷ [] = rw c.deref.ensures.value c.in_ok-push.ensures.items in
    let taken = fault_taken old bytes c.deref.result.now c.split_at.result.1.now c.push.new.self.items c.count_digits-more.result c.in-Err.fault going.digits_only is_k (omega arith) c.split_at.ensures.back is_line is_new c.in-Err.ensures.err in
    (omega arith, taken.0, open_before old bytes c.deref.result.now c.count_digits-more.result is_k is_line going, taken.1, taken.2)
