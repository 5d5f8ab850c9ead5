use Rattle.served_log.proofs.Adding.{next_there}
use Rattle.served_log.proofs.Knowing.{read_there}
use Rattle.served_log.proofs.batch.next_of.Goals as goal

pub returns-clause-next : goal.returns-clause-next
returns-clause-next g c =
    next_there g.M.Marker.origin c.args._doc_index c.args.from c.args.doc.now c.tail_for.result c.requires.number c.keeps_sound.ensures.sound c.keeps_sound.ensures.begun c.tail_for.ensures.tail

pub returns-clause-read : goal.returns-clause-read
returns-clause-read g c =
    read_there c.args.from c.args.doc.now.document c.tail_for.new.copier.ids c.tail_for.result c.tail_for.ensures.tail c.tail_for.ensures.known
