-- An input begins with one request, or is refused for one fault, or is over.
use Rattle.std.proofs.Common.{◌≡◌, ℕ, List, Result, Ok, sym, ap, ◌∙◌, subst}
use Rattle.httparse.specs.Grammar.{RequestHead}
use Rattle.http_head.specs.declared.fault.RequestFault.{RequestFault}
use Rattle.http_head.specs.declared.plan.Plan.{Plan}
use Rattle.http_head.specs.Heads.{head_check}
use Rattle.http_head.specs.Requests.{HasHead, IsOver}
use Rattle.http_head.specs.Bodies.{HasBody, RefusesBody}
use Rattle.http_door.specs.Exchange.{interim, HasRequest, Refuses, head, body}
use Rattle.http_door.proofs.Heads.{head_one, planned_not_refused, refused_head_one, over_has_no_head, over_not_refused}
use Rattle.http_door.proofs.Bodies.{body_one, body_not_refused, refused_body_one}

planned_one : (input text : List ℕ) (h : RequestHead) (after : List ℕ) (plan : Plan) (t : List ℕ) (k : RequestHead) (a : List ℕ) (p : Plan)
    → HasHead input text h after → head_check h ≡ Ok plan → HasHead input t k a → head_check k ≡ Ok p → (plan ≡ p) × (after ≡ a)
planned_one input text h after plan t k a p at check found passes =
    let heads = head_one input text h after t k a at found in
    let plans : ◌≡◌ {A = Result Plan RequestFault} (Ok plan) (Ok p) = sym check ∙ ap head_check heads.0 ∙ passes in
    let same : plan ≡ p = cc in
    (same, heads.1)

pub request_one : (input : List ℕ) (plan : Plan) (bytes rest : List ℕ) (p : Plan) (b r : List ℕ) → HasRequest input plan bytes rest → HasRequest input p b r
    → (plan ≡ p) × (bytes ≡ b) × (rest ≡ r)
request_one input plan bytes rest p b r x y =
    let heads = planned_one input x.text x.head x.after plan y.text y.head y.after p x.at x.check y.at y.check in
    let at_plan = subst (λ (q : Plan). HasBody q.body x.after bytes rest) heads.0 x.body_at in
    let bodies = body_one p.body y.after bytes rest b r (subst (λ (a : List ℕ). HasBody p.body a bytes rest) heads.1 at_plan) y.body_at in
    (heads.0, bodies.0, bodies.1)

pub request_not_over : (input : List ℕ) (plan : Plan) (bytes rest : List ℕ) (ended : Type 0) → HasRequest input plan bytes rest → IsOver input ended → ⊥
request_not_over input plan bytes rest ended x none = over_has_no_head input x.text x.head x.after ended x.at none

pub request_not_refused : (input : List ℕ) (plan : Plan) (bytes rest : List ℕ) (ended : Type 0) (fault : RequestFault) (before : List ℕ)
    → HasRequest input plan bytes rest → Refuses input ended fault before → ⊥
request_not_refused input plan bytes rest ended fault before x (head refuses is) =
    planned_not_refused input x.text x.head x.after plan ended fault x.at x.check refuses
request_not_refused input plan bytes rest ended fault before x (body t k a p found passes refuses is) =
    let heads = planned_one input x.text x.head x.after plan t k a p x.at x.check found passes in
    let at_plan = subst (λ (q : Plan). HasBody q.body x.after bytes rest) heads.0 x.body_at in
    body_not_refused p.body a bytes rest ended fault (subst (λ (y : List ℕ). HasBody p.body y bytes rest) heads.1 at_plan) refuses

pub refuses_one : (input : List ℕ) (ended end : Type 0) (f : RequestFault) (before : List ℕ) (g : RequestFault) (b : List ℕ)
    → Refuses input ended f before → Refuses input end g b → (f ≡ g) × (before ≡ b)
refuses_one input ended end f before g b (head refuses is) (head rejects at) = (refused_head_one input ended end f g refuses rejects, is ∙ sym at)
refuses_one input ended end f before g b (head refuses is) (body t k a p found passes rejects at) =
    absurd (planned_not_refused input t k a p ended f found passes refuses)
refuses_one input ended end f before g b (body text h after plan has check refuses is) (head rejects at) =
    absurd (planned_not_refused input text h after plan end g has check rejects)
refuses_one input ended end f before g b (body text h after plan has check refuses is) (body t k a p found passes rejects at) =
    let heads = planned_one input text h after plan t k a p has check found passes in
    let at_plan = subst (λ (q : Plan). RefusesBody q.body after ended f) heads.0 refuses in
    let refuses_too = subst (λ (y : List ℕ). RefusesBody p.body y ended f) heads.1 at_plan in
    (refused_body_one p.body a ended end f g refuses_too rejects, is ∙ ap interim heads.0 ∙ sym at)

pub over_refuses_nothing : (input : List ℕ) (ended end : Type 0) (fault : RequestFault) (before : List ℕ) → IsOver input ended → Refuses input end fault before → ⊥
over_refuses_nothing input ended end fault before none (head refuses is) = over_not_refused input ended end fault none refuses
over_refuses_nothing input ended end fault before none (body text h after plan has check refuses is) = over_has_no_head input text h after ended has none
