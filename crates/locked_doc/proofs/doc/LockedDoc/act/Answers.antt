use Rattle.std.proofs.Common.{refl, sym, ◌∙◌, true≢false}
use Rattle.locked_doc.proofs.doc.LockedDoc.act.Goals as goal

pub returns-else-has_opened-clause-other : goal.returns-else-has_opened-clause-other
returns-else-has_opened-clause-other g c = λ other.
    record {
      same = (refl, refl);
      answer = c.turned_away.ensures.reply;
      of = (c.turned_away.ensures.of.0 ∙ c.number.ensures, c.turned_away.ensures.of.1 ∙ c.seat.ensures);
    }

pub returns-else-has_opened-clause-own : goal.returns-else-has_opened-clause-own
returns-else-has_opened-clause-own g c = λ own. absurd (true≢false (sym (c.has_opened.ensures.value.1 own) ∙ c.if-has_opened.false))

pub returns-then-has_opened-clause-other : goal.returns-then-has_opened-clause-other
returns-then-has_opened-clause-other g c = λ other. absurd (other (c.has_opened.ensures.value.0 c.if-has_opened.true))
