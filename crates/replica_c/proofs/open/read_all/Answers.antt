use Rattle.std.proofs.Common.{ℕ, List, [], ◌∷◌, ◌++◌, Ok, sym, ap, ◌∙◌, subst, append_assoc}
use Rattle.line_feed.specs.Lines.{lines}
use Rattle.replica_c.specs.Asking.{op_of_line}
use Rattle.replica_c.specs.Stored.{AreWritten}
use Rattle.replica_c.proofs.Opening.{read_is, read_whole, written_more}
use Rattle.replica_c.proofs.open.read_all.Goals as goal

pub loop-rest-preserved : goal.loop-rest-preserved
loop-rest-preserved c =
    let (read, split, written) = c.loop-rest.invariant in
    let line = c.cut.result.0.now in
    let op = c.beside_last-op.result in
    let op_is = read_is c.read_operation.result (op_of_line line) op c.read_operation.ensures (c.in_ok-read_operation.was ∙ ap Ok (sym c.beside_last-op.ensures)) in (
      read ++ line ∷ [],
      split ∙ ap (λ (rest : List (List ℕ)). read ++ rest) c.cut.ensures.lines ∙ sym (append_assoc read (line ∷ []) (lines c.cut.result.1.now)),
      subst (AreWritten (read ++ line ∷ [])) (sym c.in_ok-push.ensures.items) (written_more read c.loop-rest.operations.items line op written op_is),
    )

pub returns : goal.returns
returns c =
    let (read, split, written) = c.loop-rest.invariant in
    record { ok = read_whole c.args.text.now c.loop-rest.rest.now read c.loop-rest.operations.items c.loop-rest-test.ensures split written; err = tt }
