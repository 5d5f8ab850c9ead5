use Rattle.op_core.proofs.encode.write_mutation.Goals as goal

pub returns-in-Assign : goal.returns-in-Assign
returns-in-Assign c = rw c.in-Assign.is (c.write_with.ensures _ c.val_to_json.ensures)
