use Rattle.std.proofs.Common.{◌<◌, List, length, Contains, sym, ap, subst, arith}
use Rattle.std.proofs.lemmas.List.Elements.{Contains-get_or}
use Rattle.op_core.specs.Op.{Op}
use Rattle.op_log.proofs.Indexes.{stands-within}
use Rattle.op_log.proofs.log.OpLog.last_by.Goals as goal

pub index-requires : goal.index-requires
index-requires c =
    let is = c.self.invariant.index.lasts.each c.args.name c.in-Some.at (sym c.in-Some.ensures) in
    omega (arith, c.number.ensures, stands-within is.here, c.self.inside.entries.ok.0)

pub returns-in-Some : goal.returns-in-Some
returns-in-Some c =
    let log = c.self.inside.entries.items in
    let op = c.index.result.now in
    let is = c.self.invariant.index.lasts.each c.args.name c.in-Some.at (sym c.in-Some.ensures) in
    let within : c.number.result < length log = omega (arith, c.number.ensures, stands-within is.here) in
    subst (λ (l : List Op). Contains l op) (ap (λ l. l.operations) c.self.view_is) (subst (λ (o : Op). Contains log o) (sym c.index.ensures) (Contains-get_or log c.number.result op within))
