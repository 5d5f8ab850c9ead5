use Rattle.stored_log.proofs.Batches.{still_sound}
use Rattle.stored_log.proofs.list_image.ListImage.add.Goals as goal

pub invariant_of-self : goal.invariant_of-self
invariant_of-self c =
    let it = c.self.inside in
    still_sound it.epoch c.args.doc.now c.args.entries.now it.docs.items c.add.new.docs.items c.requires.named c.requires.some c.self.invariant c.add.result c.add.ensures.ok c.add.ensures.err
