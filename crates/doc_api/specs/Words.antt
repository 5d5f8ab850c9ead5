-- The words that the crates above are written in, under one name.
pub use Rattle.lamport_id.specs.Order.{id_cmp, name_cmp}
pub use Rattle.lamport_id.specs.declared.id.Id.{Id}
pub use Rattle.json_scalar.specs.Refusal.{UnlessMemory}
pub use Rattle.json_scalar.specs.declared.refusal.Refusal.{Refusal}
pub use Rattle.json_scalar.specs.declared.refusal.Refusal.TheVariants.{NoMemory}
pub use Rattle.json_scalar.specs.declared.scalar.Scalar.{Scalar}
pub use Rattle.json_scalar.specs.declared.scalar.Val.{Val}
pub use Rattle.op_core.specs.Op.{Op}
pub use Rattle.op_core.specs.declared.cursor.Cursor.{Cursor}
pub use Rattle.op_core.specs.declared.cursor.Key.{Key}
pub use Rattle.op_core.specs.declared.cursor.Tagged.{Tagged}
pub use Rattle.op_core.specs.declared.mutation.Mutation.{Mutation}
pub use Rattle.op_core.specs.declared.mutation.Mutation.TheVariants.{Assign, Insert, Delete, Add}
