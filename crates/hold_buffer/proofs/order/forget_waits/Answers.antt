use Rattle.std.proofs.Common.{◌≡◌, ◌∙◌, Contains, sym, ap, subst}
use Rattle.std.proofs.lemmas.List.Elements.{Contains-get_or}
use Rattle.hold_buffer.specs.declared.entry.Entry.{Entry}
use Rattle.hold_buffer.proofs.Noted.{noted-forgotten}
use Rattle.hold_buffer.proofs.order.forget_waits.Goals as goal

pub returns : goal.returns
returns c id place =
    let order = c.args.order.now.items in
    let t = c.index-entry.result.now in
    let among : Contains order t = subst (Contains order) (sym c.index-entry.ensures) (Contains-get_or order c.args.at t place.within) in
    let name : t.id ≡ id = ap (λ (u : Entry). u.id) c.index-entry.ensures ∙ place.has_key t in
    noted-forgotten order c.args.waiters.now c.forget_all.new.self id t c.requires.apart c.requires.noted among name c.forget_all.ensures
