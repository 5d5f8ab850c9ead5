use Rattle.std.proofs.Common.{◌≡◌, [], ◌∷◌, ◌++◌, refl, sym, ap, subst}
use Rattle.crdt_rules.specs.Fits.{Fits}
use Rattle.op_log.proofs.Growing.{IsIndexed-append}
use Rattle.op_log.proofs.log.OpLog.append.Goals as goal

pub invariant_of-self : goal.invariant_of-self
invariant_of-self c =
    let fits : Fits c.args.op c.self.inside.entries.items = subst (λ l. Fits c.args.op l.operations) (sym c.self.view_is) c.requires.fits in
    let id = c.id-counter.ensures.value in
    let entries : c.push_reserved.new.self.items ≡ c.self.inside.entries.items ++ c.args.op ∷ [] = rw (c.push_reserved.ensures.items, c.sharing-op.ensures) refl in
    rw entries
    (IsIndexed-append c.self.invariant c.args.op c.put_last.new.pairs.items fits
    (rw c.deref.ensures.value at c.push-before.ensures.index c.args.op (sym (ap (λ i. i.replica) id)) fits)
    c.put_last.ensures.rising
    (rw id at c.put_last.ensures.puts))
