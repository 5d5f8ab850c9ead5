use Rattle.std.proofs.Common.{sym, subst}
use Rattle.list_order.specs.Marks.{IsMarked}
use Rattle.list_order.proofs.Cutting.{all_open}
use Rattle.list_order.proofs.marks.Marks.recut.Goals as goal

pub cut_on-requires : goal.cut_on-requires
cut_on-requires c =
    let slots = c.args.chain.now.slots.items in
    let self = c.args.self.now in
    record {
      fits =
          subst (λ b. IsMarked slots c.args.chain.now.first self.by_slot.items b self.present) (sym c.clear.ensures.items)
          (all_open slots c.args.chain.now.first self.by_slot.items self.blocks.items self.present c.requires.fits);
    }
