use Rattle.network.proofs.Offers.{passed}
use Rattle.sheet.proofs.Working.{granted_facts, granted_step}
use Rattle.sheet.proofs.sheets.Sheet.work.Goals as goal

pub invariant_of-self : goal.invariant_of-self
invariant_of-self g c =
    let self = c.args.self.now in
    granted_facts self.network (g.B.Bound.tells self.bound) self.target self.state self.seeking (record { given = self.given; fits = self.fits; reached = self.reached; stands = self.stands }) c.in-Some.target c.in-Some.is c.args.openings c.find_state-self.result c.open_many.new.self c.open_many.ensures.over c.open_many.ensures.opened c.find_state-self.ensures

pub returns : goal.returns
returns g c =
    let self = c.args.self.now in
    granted_step self.network (g.B.Bound.tells self.bound) self.target self.state self.seeking (record { given = self.given; fits = self.fits; reached = self.reached; stands = self.stands }) c.in-Some.target c.in-Some.is c.args.openings c.open_many.new.self (passed _ tt tt c.in_ok-check_grant.ensures) c.open_many.ensures.opened
