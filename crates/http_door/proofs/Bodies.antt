-- An input begins with one body, or is refused for one fault.
use Rattle.std.proofs.Common.{◌≡◌, ℕ, ◌+◌, ◌≤◌, List, [], ◌∷◌, ◌++◌, length, sym, ap, ◌∙◌, refl, subst, arith}
use Rattle.std.proofs.lemmas.List.{length-append}
use Rattle.http_head.specs.declared.fault.RequestFault.{RequestFault}
use Rattle.http_head.specs.declared.plan.Body.{Body}
use Rattle.http_head.specs.declared.plan.Body.TheVariants.{Sized, Chunked}
use Rattle.http_head.specs.Heads.{max_body}
use Rattle.http_head.specs.Bodies.{HasChunks, joined, HasEnd, RefusesChunk, HasBody, RefusesBody}
use Rattle.http_head.proofs.Parts.{split_one}
use Rattle.http_door.proofs.Chunks.{chunk_one, chunk_no_end, end_one, chunk_not_refused, end_not_refused, refused_chunk_one}

chunks_one : (cs ds : List (List ℕ)) (input a rest b r : List ℕ) → HasChunks cs input a → HasEnd a rest → HasChunks ds input b → HasEnd b r
    → (joined cs ≡ joined ds) × (rest ≡ r)
chunks_one [] [] input a rest b r x end y stop = (refl, end_one b rest r (subst (λ (t : List ℕ). HasEnd t rest) (sym x ∙ y) end) stop)
chunks_one [] (d ∷ ds) input a rest b r x end y stop =
    absurd (chunk_no_end input d y.0 rest y.1 (subst (λ (t : List ℕ). HasEnd t rest) (sym x) end))
chunks_one (c ∷ cs) [] input a rest b r x end y stop =
    absurd (chunk_no_end input c x.0 r x.1 (subst (λ (t : List ℕ). HasEnd t r) (sym y) stop))
chunks_one (c ∷ cs) (d ∷ ds) input a rest b r x end y stop =
    let same = chunk_one input c x.0 d y.0 x.1 y.1 in
    let later = chunks_one cs ds y.0 a rest b r (subst (λ (t : List ℕ). HasChunks cs t a) same.1 x.2) end y.2 stop in
    (ap (λ (t : List ℕ). t ++ joined cs) same.0 ∙ ap (λ (t : List ℕ). d ++ t) later.0, later.1)

-- n bytes stand before
chunks_not_refused : (cs ds : List (List ℕ)) (n m : ℕ) (input a rest b : List ℕ) (ended : Type 0) (fault : RequestFault)
    → HasChunks cs input a → HasEnd a rest → n + length (joined cs) ≤ max_body
    → HasChunks ds input b → RefusesChunk b ended m fault → m ≡ n + length (joined ds) → ⊥
chunks_not_refused [] [] n m input a rest b ended fault x end fits y refuses is =
    end_not_refused b rest ended m fault (subst (λ (t : List ℕ). HasEnd t rest) (sym x ∙ y) end) (omega arith) refuses
chunks_not_refused [] (d ∷ ds) n m input a rest b ended fault x end fits y refuses is =
    chunk_no_end input d y.0 rest y.1 (subst (λ (t : List ℕ). HasEnd t rest) (sym x) end)
chunks_not_refused (c ∷ cs) [] n m input a rest b ended fault x end fits y refuses is =
    chunk_not_refused input c x.0 ended m fault x.1 (omega (arith, length-append c (joined cs)))
    (subst (λ (t : List ℕ). RefusesChunk t ended m fault) (sym y) refuses)
chunks_not_refused (c ∷ cs) (d ∷ ds) n m input a rest b ended fault x end fits y refuses is =
    let same = chunk_one input c x.0 d y.0 x.1 y.1 in
    let size : length c ≡ length d = ap length same.0 in
    chunks_not_refused cs ds (n + length c) m y.0 a rest b ended fault (subst (λ (t : List ℕ). HasChunks cs t a) same.1 x.2) end
    (omega (arith, length-append c (joined cs))) y.2 refuses (omega (arith, length-append d (joined ds)))

refused_chunks_one : (cs ds : List (List ℕ)) (n m k : ℕ) (input a b : List ℕ) (ended end : Type 0) (f g : RequestFault)
    → HasChunks cs input a → RefusesChunk a ended m f → m ≡ n + length (joined cs) → m ≤ max_body
    → HasChunks ds input b → RefusesChunk b end k g → k ≡ n + length (joined ds) → k ≤ max_body → f ≡ g
refused_chunks_one [] [] n m k input a b ended end f g x refuses is fits y rejects at keeps =
    let same : m ≡ k = omega arith in
    refused_chunk_one b ended end k f g keeps
    (subst (λ (i : ℕ). RefusesChunk b ended i f) same (subst (λ (t : List ℕ). RefusesChunk t ended m f) (sym x ∙ y) refuses)) rejects
refused_chunks_one [] (d ∷ ds) n m k input a b ended end f g x refuses is fits y rejects at keeps =
    absurd (chunk_not_refused input d y.0 ended m f y.1 (omega (arith, length-append d (joined ds)))
    (subst (λ (t : List ℕ). RefusesChunk t ended m f) (sym x) refuses))
refused_chunks_one (c ∷ cs) [] n m k input a b ended end f g x refuses is fits y rejects at keeps =
    absurd (chunk_not_refused input c x.0 end k g x.1 (omega (arith, length-append c (joined cs)))
    (subst (λ (t : List ℕ). RefusesChunk t end k g) (sym y) rejects))
refused_chunks_one (c ∷ cs) (d ∷ ds) n m k input a b ended end f g x refuses is fits y rejects at keeps =
    let same = chunk_one input c x.0 d y.0 x.1 y.1 in
    let size : length c ≡ length d = ap length same.0 in
    refused_chunks_one cs ds (n + length c) m k y.0 a b ended end f g (subst (λ (t : List ℕ). HasChunks cs t a) same.1 x.2) refuses
    (omega (arith, length-append c (joined cs))) fits y.2 rejects (omega (arith, length-append d (joined ds))) keeps

pub body_one : (by : Body) (input body rest b r : List ℕ) → HasBody by input body rest → HasBody by input b r → (body ≡ b) × (rest ≡ r)
body_one (Sized n) input body rest b r x y = split_one body b rest r (sym x.0 ∙ y.0) (x.1 ∙ sym y.1)
body_one Chunked input body rest b r x y =
    let same = chunks_one x.chunks y.chunks input x.after rest y.after r x.are x.end y.are y.end in
    (x.body_is ∙ same.0 ∙ sym y.body_is, same.1)

pub body_not_refused : (by : Body) (input body rest : List ℕ) (ended : Type 0) (fault : RequestFault) → HasBody by input body rest → RefusesBody by input ended fault → ⊥
body_not_refused (Sized n) input body rest ended fault x y = absurd (omega (arith, ap length x.0, length-append body rest, x.1, y.1))
body_not_refused Chunked input body rest ended fault x y =
    chunks_not_refused x.chunks y.chunks 0 (length (joined y.chunks)) input x.after rest y.after ended fault x.are x.end
    (omega (arith, ap length x.body_is, x.within)) y.are y.refuses (omega arith)

pub refused_body_one : (by : Body) (input : List ℕ) (ended end : Type 0) (f g : RequestFault) → RefusesBody by input ended f → RefusesBody by input end g → f ≡ g
refused_body_one (Sized n) input ended end f g x y = x.2 ∙ sym y.2
refused_body_one Chunked input ended end f g x y =
    refused_chunks_one x.chunks y.chunks 0 (length (joined x.chunks)) (length (joined y.chunks)) input x.after y.after ended end f g
    x.are x.refuses (omega arith) x.within y.are y.refuses (omega arith) y.within
