use Rattle.std.proofs.Common.{◌++◌, List, map, ap, sym, subst, ◌∙◌}
use Rattle.messages.specs.declared.framework.Framework.{Framework}
use Rattle.drf_pick.specs.Shown.{TallyShows, counted_of}
use Rattle.master_state.specs.LastRound.{clients_of}
use Rattle.master_rounds.specs.Visits.{KeepsRoom, Progress, allocation_by, begins}
use Rattle.master_rounds.proofs.Bounds.{sides_add_up, totals_add_up}
use Rattle.master_rounds.proofs.Keeping.{begins_shown, knowing, round_owned, round_shown, round_so}
use Rattle.master_rounds.proofs.SendingAll.{Holds, made_can, round_room}
use Rattle.master_rounds.specs.News.{CanAllBeMade}
use Rattle.master_rounds.proofs.round.next_offers.Goals as goal

pub shares_of-requires-clause-allocated : goal.shares_of-requires-clause-allocated
shares_of-requires-clause-allocated c = sides_add_up c.args.state.now.sides c.requires.rows c.requires.fits.totals c.requires.fits.few

pub shares_of-requires-clause-owned : goal.shares_of-requires-clause-owned
shares_of-requires-clause-owned c = totals_add_up c.args.state.now.sides c.requires.rows c.requires.fits.few

pub round_of-requires-clause-room : goal.round_of-requires-clause-room
round_of-requires-clause-room c =
    let s = c.args.state.now in
    let k = c.in_ok-counted.counted in
    let same = c.take_starts-starts.ensures.same ∙ c.in_ok-counted.ensures.same in
    let holds : Holds s = record { ordered = c.as_slice-ordered.ensures.ordered; names = c.requires.names; rows = c.requires.rows; fit = c.requires.fits } in
    let room = round_room c.args.weights.now s k.shares holds (begins_shown c.args.weights.now s k c.in_ok-counted.ensures.shares) in
    subst (λ (fs : List Framework). KeepsRoom (knowing s fs) (begins k.shares (knowing s fs))) (sym same) room

pub keep-requires-clause-owned : goal.keep-requires-clause-owned
keep-requires-clause-owned c =
    let s = c.args.state.now in
    let k = c.in_ok-counted.counted in
    let p = c.in_ok-progress.progress in
    let same = c.take_starts-starts.ensures.same ∙ c.in_ok-counted.ensures.same in
    let holds : Holds s = record { ordered = c.as_slice-ordered.ensures.ordered; names = c.requires.names; rows = c.requires.rows; fit = c.requires.fits } in
    round_owned c.args.weights.now s k p holds c.in_ok-counted.ensures.shares (round_so s c.take_starts-starts.new.self k.shares p c.in_ok-progress.ensures.progress same)

pub keep-requires-clause-shown : goal.keep-requires-clause-shown
keep-requires-clause-shown c =
    let s = c.args.state.now in
    let k = c.in_ok-counted.counted in
    let p = c.in_ok-progress.progress in
    let same = c.take_starts-starts.ensures.same ∙ c.in_ok-counted.ensures.same in
    let holds : Holds s = record { ordered = c.as_slice-ordered.ensures.ordered; names = c.requires.names; rows = c.requires.rows; fit = c.requires.fits } in
    let shown = round_shown c.args.weights.now s k p holds c.in_ok-counted.ensures.shares (round_so s c.take_starts-starts.new.self k.shares p c.in_ok-progress.ensures.progress same) in
    subst (λ os. TallyShows (counted_of k.found.items ++ map allocation_by os) (clients_of c.keep_starts.new.self) p.shares) (sym c.as_slice.ensures)
    (subst (λ (fs : List Framework). TallyShows (counted_of k.found.items ++ map allocation_by p.made) (clients_of fs) p.shares) (sym (c.keep_starts.ensures ∙ same)) shown)

pub returns-clause-round : goal.returns-clause-round
returns-clause-round c =
    let s = c.args.state.now in
    let k = c.in_ok-counted.counted in
    let p = c.in_ok-progress.progress in
    let so = round_so s c.take_starts-starts.new.self k.shares p c.in_ok-progress.ensures.progress (c.take_starts-starts.ensures.same ∙ c.in_ok-counted.ensures.same) in
    record {
      shares = k.shares;
      shown = begins_shown c.args.weights.now s k c.in_ok-counted.ensures.shares;
      made_is = ap (λ (q : Progress). q.made) so;
      next_is = ap (λ (q : Progress). q.next) so;
    }

pub returns-clause-state : goal.returns-clause-state
returns-clause-state c = c.keep.ensures ∙ ap (knowing c.args.state.now) (c.keep_starts.ensures ∙ c.take_starts-starts.ensures.same ∙ c.in_ok-counted.ensures.same)

pub returns-clause-can : goal.returns-clause-can
returns-clause-can c =
    let s = c.args.state.now in
    let k = c.in_ok-counted.counted in
    let p = c.in_ok-progress.progress in
    let so = round_so s c.take_starts-starts.new.self k.shares p c.in_ok-progress.ensures.progress (c.take_starts-starts.ensures.same ∙ c.in_ok-counted.ensures.same) in
    let holds : Holds s = record { ordered = c.as_slice-ordered.ensures.ordered; names = c.requires.names; rows = c.requires.rows; fit = c.requires.fits } in
    subst (λ os. CanAllBeMade os s.sides) (sym (ap (λ (q : Progress). q.made) so)) (made_can c.args.weights.now s k.shares holds (begins_shown c.args.weights.now s k c.in_ok-counted.ensures.shares))
