-- A good opening has the facts.
use Rattle.std.proofs.Common.{◌≡◌, ℕ, zero-le, le_refl, true, false, List, [], ◌∷◌, ◌++◌, map, refl, sym, subst, inr, append-nil, le_of_lt}
use Rattle.std.specs.List.{AllByRecursion as Each}
use Rattle.messages.specs.declared.record.RecordParts.{RecordParts}
use Rattle.messages.specs.declared.record.RecordedTask.{RecordedTask}
use Rattle.cluster_model.specs.Ids.{first_of_run}
use Rattle.cluster_model.specs.Sides.{new_run, job_rows}
use Rattle.cluster_model.specs.Channels.{open_channel}
use Rattle.cluster_safe.specs.Facts.{Less, TaskInFlight, live, task_stake, Distinct, InOrder, AtMost, Grown, Kept, IsGood}

all_grown : (ss : List TaskInFlight) → Each (Grown (λ key. [])) ss
all_grown [] = tt
all_grown (s ∷ ss) = ((s.states, refl), all_grown ss)

-- what stands in the record doesn't come any more
none_comes : (ts : List RecordedTask) → InOrder (map task_stake ts)
none_comes [] = tt
none_comes (t ∷ ts) = (apart ts, none_comes ts)
  where
    apart : (us : List RecordedTask) → Each (λ s. s.comes ≡ true → Less t.job.key s.job.key) (map task_stake us)
    apart [] = tt
    apart (u ∷ us) = ((λ (e : false ≡ true). absurd cc), apart us)

pub kept_opening : (d : RecordParts) (run : ℕ) → IsGood run d → Kept (λ key. []) (record { run = new_run run; channel = open_channel d })
kept_opening o run g = (
  record { ever = λ s. []; peak = 0; told = λ s. o.run; latest = run; sent = λ key. [] },
  record {
    past = record { none = λ s lt. refl; ordered = λ s. tt; rises = λ s u le. le_refl o.run; runs = λ s. le_of_lt g.later };
    run = le_refl run;
    unsent = λ key le. refl;
    when_open = λ (e : false ≡ true). absurd cc;
    when_shut = λ e. record { offers = refl; booked = refl; closed = inr g.later };
    states = (
      record {
        owns = λ name. zero-le;
        told = refl;
        peak = zero-le;
        applied = λ (e : false ≡ true). absurd cc;
        distinct = at Distinct g.once;
        order = at InOrder (none_comes o.tasks);
        below = at (Each (λ s. Less s.job.key (first_of_run run))) g.below;
        room = at (λ ss. AtMost (job_rows (live ss)) o.total) g.fits;
        ends = λ (e : false ≡ true). absurd cc;
        grown = all_grown (map task_stake o.tasks ++ []);
      },
      tt,
    );
    downs = tt;
    ups = tt;
    pending = tt;
  },
  (λ name. zero-le),
  refl,
)
  where
    at : (P : List TaskInFlight → Type 0) → P (map task_stake o.tasks) → P (map task_stake o.tasks ++ [])
    at P h = subst P (sym (append-nil (map task_stake o.tasks))) h
