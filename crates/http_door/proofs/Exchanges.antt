-- One input and one bench give one exchange.
use Rattle.std.proofs.Common.{◌≡◌, ℕ, ◌+◌, ◌<◌, Bool, true, false, if◌then◌else◌, List, [], ◌∷◌, ◌++◌, length, Option, Some, None, sym, ap, ◌∙◌, refl, subst, append_assoc, arith}
use Rattle.http_head.specs.declared.fault.RequestFault.{RequestFault}
use Rattle.http_head.specs.declared.plan.Plan.{Plan}
use Rattle.http_head.specs.Requests.{IsOver}
use Rattle.http_door.specs.declared.refusal.Refusal.TheVariants as refusals
use Rattle.http_door.specs.Refusals.{refused}
use Rattle.http_door.specs.Deeds.{Deed}
use Rattle.http_door.specs.Exchange.{interim, HasRequest, Refuses, Responds, unread, spent, accepted, rejected, streamed, Answers, Serves, Ends, over, refuses_early, responded}
use Rattle.http_door.specs.Function.{question, AnswersAlike, is_spent, ends_spent, IsFunction}
use Rattle.http_door.proofs.ExchangeRequests.{request_one, request_not_over, request_not_refused, refuses_one, over_refuses_nothing}
use Rattle.http_door.proofs.ExchangeResponses.{Reply, true_not_false, reply_of, reply_one}

-- ---- answers alike

alike_first : (d : Deed) (xs ys : List Deed) → AnswersAlike (d ∷ xs) ys → AnswersAlike (d ∷ []) ys
alike_first d xs [] alike = tt
alike_first d xs (y ∷ ys) alike = λ same. ((alike same).0, tt)

alike_back : (xs ys : List Deed) → AnswersAlike xs ys → AnswersAlike ys xs
alike_back [] [] alike = tt
alike_back [] (y ∷ ys) alike = tt
alike_back (x ∷ xs) [] alike = tt
alike_back (x ∷ xs) (y ∷ ys) alike = λ same. let step = alike (sym same) in (sym step.0, alike_back xs ys step.1)

-- ---- one request

responds_one : (plan p : Plan) (body b : List ℕ) (on o : Bool) (deeds d : List Deed) (text t : List ℕ) → plan ≡ p → body ≡ b
    → (x : Responds plan body on deeds text) (y : Responds p b o d t) → is_spent x ≡ is_spent y → AnswersAlike deeds d → (on ≡ o) × (deeds ≡ d) × (text ≡ t)
responds_one plan p body b on o deeds d text t plans bodies x y same alike =
    let at_plan = subst (λ (q : Plan). Reply q body on deeds text (is_spent x)) plans (reply_of plan body on deeds text x) in
    let at_body = subst (λ (c : List ℕ). Reply p c on deeds text (is_spent x)) bodies at_plan in
    reply_one p b on o deeds d text t (is_spent x) (is_spent y) at_body (reply_of p b o d t y) same alike

-- where the connection goes on, memory didn't run out
goes_on : (plan : Plan) (body : List ℕ) (deeds : List Deed) (text : List ℕ) (x : Responds plan body true deeds text) → is_spent x ≡ false
goes_on plan body deeds text (unread cause reads goes asked says) = refl
goes_on plan body deeds text (spent goes asked says) = absurd cc
goes_on plan body deeds text (accepted call reads goes asked says) = refl
goes_on plan body deeds text (rejected call fault reads goes asked says) = refl
goes_on plan body deeds text (streamed call stream events reads goes asked says) = refl

first_is : (a b : Deed) → a ∷ [] ≡ b ∷ [] → a ≡ b
first_is a b same = cc

request_at : (a b : List ℕ) (plan : Plan) (body rest : List ℕ) → a ≡ b → HasRequest b plan body rest → HasRequest a plan body rest
request_at a b plan body rest same has = subst (λ (x : List ℕ). HasRequest x plan body rest) (sym same) has

refuses_at : (a b : List ℕ) (ended : Type 0) (fault : RequestFault) (before : List ℕ) → a ≡ b → Refuses b ended fault before → Refuses a ended fault before
refuses_at a b ended fault before same refuses = subst (λ (x : List ℕ). Refuses x ended fault before) (sym same) refuses

over_at : (a b : List ℕ) (ended : Type 0) → a ≡ b → IsOver b ended → IsOver a ended
over_at a b ended same none = subst (λ (x : List ℕ). IsOver x ended) (sym same) none

-- ---- one end

ends_one : (a b : List ℕ) (ended end : Type 0) (deeds others : List Deed) (sent text : List ℕ) → a ≡ b
    → (e : Ends a ended deeds sent) (f : Ends b end others text) → ends_spent e ≡ ends_spent f → AnswersAlike deeds others → (deeds ≡ others) × (sent ≡ text)
ends_one a b ended end deeds others sent text same (over none asked says) (over o ask say) spends alike = (asked ∙ sym ask, says ∙ sym say)
ends_one a b ended end deeds others sent text same (over none asked says) (refuses_early g t rejects ask say) spends alike =
    absurd (over_refuses_nothing a ended end g t none (refuses_at a b end g t same rejects))
ends_one a b ended end deeds others sent text same (over none asked says) (responded p c r t has y say) spends alike =
    absurd (request_not_over a p c r ended (request_at a b p c r same has) none)
ends_one a b ended end deeds others sent text same (refuses_early f s refuses asked says) (over o ask say) spends alike =
    absurd (over_refuses_nothing a end ended f s (over_at a b end same o) refuses)
ends_one a b ended end deeds others sent text same (refuses_early f s refuses asked says) (refuses_early g t rejects ask say) spends alike =
    let one = refuses_one a ended end f s g t refuses (refuses_at a b end g t same rejects) in (
      asked ∙ sym ask,
      says ∙ ap (λ (x : List ℕ). x ++ refused (refusals.Request f)) one.1 ∙ ap (λ (x : RequestFault). t ++ refused (refusals.Request x)) one.0 ∙ sym say,
    )
ends_one a b ended end deeds others sent text same (refuses_early f s refuses asked says) (responded p c r t has y say) spends alike =
    absurd (request_not_refused a p c r ended f s (request_at a b p c r same has) refuses)
ends_one a b ended end deeds others sent text same (responded plan body rest s has x says) (over o ask say) spends alike =
    absurd (request_not_over a plan body rest end has (over_at a b end same o))
ends_one a b ended end deeds others sent text same (responded plan body rest s has x says) (refuses_early g t rejects ask say) spends alike =
    absurd (request_not_refused a plan body rest end g t has (refuses_at a b end g t same rejects))
ends_one a b ended end deeds others sent text same (responded plan body rest s has x says) (responded p c r t found y say) spends alike =
    let one = request_one a plan body rest p c r has (request_at a b p c r same found) in
    let reply = responds_one plan p body c false false deeds others s t one.0 one.1 x y spends alike in
    (reply.1, says ∙ ap (λ (q : Plan). interim q ++ s) one.0 ∙ ap (λ (v : List ℕ). interim p ++ v) reply.2 ∙ sym say)

-- ---- where memory ran out

abbrev spent_behind : Bool → ℕ → Option ℕ
spent_behind out n = if out then Some n else None

spent_same : (b c : Bool) (n : ℕ) → spent_behind b n ≡ spent_behind c n → b ≡ c
spent_same true true n same = refl
spent_same true false n same = let bad : Some n ≡ None = same in absurd cc
spent_same false true n same = let bad : None ≡ Some n = same in absurd cc
spent_same false false n same = refl

not_first : (b c : Bool) (m : ℕ) → 0 < m → spent_behind b m ≡ spent_behind c 0 → c ≡ false
not_first true true m more same = let both : Some m ≡ Some 0 = same in let none : m ≡ 0 = cc in absurd (omega arith)
not_first false true m more same = let bad : ◌≡◌ {A = Option ℕ} None (Some 0) = same in absurd cc
not_first true false m more same = refl
not_first false false m more same = refl

spent_later : (b c : Bool) (m n i j : ℕ) → i ≡ m + 1 → j ≡ n + 1 → spent_behind b i ≡ spent_behind c j → spent_behind b m ≡ spent_behind c n
spent_later true true m n i j is at same = let both : Some i ≡ Some j = same in let ends : i ≡ j = cc in ap Some (omega arith)
spent_later true false m n i j is at same = let bad : Some i ≡ None = same in absurd cc
spent_later false true m n i j is at same = let bad : None ≡ Some j = same in absurd cc
spent_later false false m n i j is at same = refl

-- ---- one connection

-- no request is both answered so that the connection goes on and the end of it
not_both : (a b : List ℕ) (end : Type 0) (deed : Deed) (first after : List ℕ) (others : List Deed) (text : List ℕ) → a ≡ b
    → Answers a deed first after → (f : Ends b end others text) → ends_spent f ≡ false → AnswersAlike (deed ∷ []) others → ⊥
not_both a b end deed first after others text same x (over o ask say) kept alike =
    request_not_over a x.plan x.body after end x.has (over_at a b end same o)
not_both a b end deed first after others text same x (refuses_early g t rejects ask say) kept alike =
    request_not_refused a x.plan x.body after end g t x.has (refuses_at a b end g t same rejects)
not_both a b end deed first after others text same x (responded p c r t found y say) kept alike =
    let one = request_one a x.plan x.body after p c r x.has (request_at a b p c r same found) in
    let keeps = goes_on x.plan x.body (deed ∷ []) x.text x.responds in
    let reply = responds_one x.plan p x.body c true false (deed ∷ []) others x.text t one.0 one.1 x.responds y (keeps ∙ sym kept) alike in
    true_not_false reply.0

-- one request that is answered so that the connection goes on
answers_one : (a b : List ℕ) (d g : Deed) (first after second behind : List ℕ) → a ≡ b → Answers a d first after → Answers b g second behind
    → AnswersAlike (d ∷ []) (g ∷ []) → (d ≡ g) × (first ≡ second) × (after ≡ behind)
answers_one a b d g first after second behind same x y alike =
    let one = request_one a x.plan x.body after y.plan y.body behind x.has (request_at a b y.plan y.body behind same y.has) in
    let keeps = goes_on x.plan x.body (d ∷ []) x.text x.responds in
    let kept = goes_on y.plan y.body (g ∷ []) y.text y.responds in
    let reply = responds_one x.plan y.plan x.body y.body true true (d ∷ []) (g ∷ []) x.text y.text one.0 one.1 x.responds y.responds (keeps ∙ sym kept) alike in (
      first_is d g reply.1,
      x.sent_is ∙ ap (λ (q : Plan). interim q ++ x.text) one.0 ∙ ap (λ (t : List ℕ). interim y.plan ++ t) reply.2 ∙ sym y.sent_is,
      one.2,
    )

sent_so : (sent first more last : List ℕ) → sent ≡ first ++ more → sent ++ last ≡ first ++ (more ++ last)
sent_so sent first more last is = ap (λ (t : List ℕ). t ++ last) is ∙ append_assoc first more last

serves_one : (before prior : List Deed) (a b : List ℕ) (ended end : Type 0) (earlier rest later : List ℕ) (final : List Deed) (said r saying : List ℕ) (last : List Deed)
    → a ≡ b → Serves a before earlier rest → (e : Ends rest ended final later) → Serves b prior said r → (f : Ends r end last saying)
    → spent_behind (ends_spent e) (length before) ≡ spent_behind (ends_spent f) (length prior) → AnswersAlike (before ++ final) (prior ++ last)
    → (before ++ final ≡ prior ++ last) × (earlier ++ later ≡ said ++ saying)
serves_one [] [] a b ended end earlier rest later final said r saying last same x e y f spends alike =
    let one = ends_one rest r ended end final last later saying (sym x.1 ∙ same ∙ y.1) e f (spent_same (ends_spent e) (ends_spent f) 0 spends) alike in
    (one.0, ap (λ (t : List ℕ). t ++ later) x.0 ∙ one.1 ∙ ap (λ (t : List ℕ). t ++ saying) (sym y.0))
serves_one [] (g ∷ gs) a b ended end earlier rest later final said r saying last same x e y f spends alike =
    absurd (not_both b rest ended g y.0 y.2 final later (sym same ∙ x.1) y.4 e
    (not_first (ends_spent f) (ends_spent e) (length (g ∷ gs)) (omega arith) (sym spends))
    (alike_first g (gs ++ last) final (alike_back final (g ∷ (gs ++ last)) alike)))
serves_one (d ∷ ds) [] a b ended end earlier rest later final said r saying last same x e y f spends alike =
    absurd (not_both a r end d x.0 x.2 last saying (same ∙ y.1) x.4 f
    (not_first (ends_spent e) (ends_spent f) (length (d ∷ ds)) (omega arith) spends)
    (alike_first d (ds ++ final) last alike))
serves_one (d ∷ ds) (g ∷ gs) a b ended end earlier rest later final said r saying last same x e y f spends alike =
    let one = answers_one a b d g x.0 x.2 y.0 y.2 same x.4 y.4 (λ asks. ((alike asks).0, tt)) in
    let fewer = spent_later (ends_spent e) (ends_spent f) (length ds) (length gs) (length (d ∷ ds)) (length (g ∷ gs)) (omega arith) (omega arith) spends in
    let more = serves_one ds gs x.2 y.2 ended end x.1 rest later final y.1 r saying last one.2 x.5 e y.5 f fewer (alike (ap question one.0)).1 in (
      ap (λ (z : Deed). z ∷ (ds ++ final)) one.0 ∙ ap (λ (zs : List Deed). g ∷ zs) more.0,
      sent_so earlier x.0 x.1 later x.3 ∙ ap (λ (t : List ℕ). t ++ (x.1 ++ later)) one.1 ∙ ap (λ (t : List ℕ). y.0 ++ t) more.1 ∙ sym (sent_so said y.0 y.1 saying y.3),
    )

pub exchange_one : (ended end : Type 0) → IsFunction ended end
exchange_one ended end = λ input deeds others sent text one other alike spends.
    let front = subst (λ (d : List Deed). AnswersAlike d others) one.deeds_are alike in
    let both = subst (λ (d : List Deed). AnswersAlike (one.before ++ one.final) d) other.deeds_are front in
    let same = serves_one one.before other.before input input ended end one.earlier one.rest one.later one.final other.earlier other.rest other.later other.final
    refl one.serves one.ends other.serves other.ends spends both in
    (one.deeds_are ∙ same.0 ∙ sym other.deeds_are, one.sent_is ∙ same.1 ∙ sym other.sent_is)
