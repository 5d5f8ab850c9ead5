use Rattle.std.proofs.Common.{◌+◌, string_bytes, take_all, refl, ap, sym, ◌∙◌, arith}
use Rattle.std.proofs.lemmas.List.{length-set}
use Rattle.sqlite.specs.Values.{bound}
use Rattle.stored_rows.proofs.EntryWrites.{values_of, values_more}
use Rattle.stored_rows.proofs.store.row_values.Goals as goal

pub loop-text-init : goal.loop-text-init
loop-text-init c = record { counted = omega arith; at_is = omega arith; room = refl; filled = refl }

pub loop-text-preserved : goal.loop-text-preserved
loop-text-preserved c = record {
  counted = omega arith;
  at_is = omega arith;
  room = length-set _ (c.loop-text.at + 2) _ ∙ length-set _ (c.loop-text.at + 1) _ ∙ length-set c.loop-text.values c.loop-text.at _ ∙ c.loop-text.invariant.room;
  filled = values_more string_bytes c.args.doc.now c.args.from c.loop-text.place c.args.texts.now c.loop-text.text-index c.text-item.result c.loop-text.values c.loop-text.at
      c.to_sql.result c.to_sql-in-loop-text.result c.to_sql-in-loop-text-2.result (omega arith) c.text-item.is c.loop-text.invariant.counted (omega arith)
      c.to_sql.ensures c.to_sql-in-loop-text.ensures (rw c.as_str.ensures.value at c.to_sql-in-loop-text-2.ensures) c.loop-text.invariant.filled;
}

pub returns : goal.returns
returns c =
    ap bound (sym (take_all c.loop-text.at c.loop-text.values (omega arith))) ∙ c.loop-text.invariant.filled
    ∙ ap (values_of string_bytes c.args.doc.now c.args.from) (take_all c.loop-text.text-index c.args.texts.now c.loop-text-test.false)
