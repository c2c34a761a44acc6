use Rattle.std.proofs.Common.{◌≡◌, None, MatchOption, subst}
use Rattle.offer_tables.specs.Books.{agent_of}
use Rattle.offer_tables.specs.Places.{IsAgentAt}
use Rattle.offer_tables.specs.Rows.{IsPlaceOf}
use Rattle.offer_tables.proofs.Whereabouts.{place_told}
use Rattle.offer_tables.proofs.book.OfferBook.place_of.Goals as goal

pub returns : goal.returns
returns c =
    subst (λ as_. MatchOption c.place_of.result (agent_of c.args.name.now as_ ≡ None) (λ p. IsAgentAt c.args.name.now p as_)) c.self.view_is
    (place_told c.args.name.now c.self.inside.agents.items c.self.inside.offers c.self.inside.tasks c.self.invariant.each c.place_of.result
    (subst (λ rs. IsPlaceOf c.args.name.now rs c.place_of.result) c.deref.ensures.value c.place_of.ensures))
