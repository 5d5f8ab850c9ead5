-- What a plain context is, as a context of the definitions.
use Rattle.std.specs.Prelude.{ℕ, List, [], ◌∷◌, Bool, false, ◌&&◌, ◌||◌, not, ℤ, Option, Some, None}
use Rattle.std.specs.Prelude.{if◌then◌else◌, map}
use Rattle.std.specs.List.{list_any, prefix_len}
use Rattle.lamport_id.specs.declared.id.Id.{Id}
use Rattle.json_scalar.specs.declared.scalar.Scalar.{Scalar}
use Rattle.op_core.specs.declared.cursor.Key.{Key}
use Rattle.op_core.specs.declared.cursor.Tagged.{Tagged}
use Rattle.op_core.specs.declared.mutation.Mutation.{Mutation}
use Rattle.op_core.specs.Shape.{key_of}
use Rattle.crdt_rules.specs.Same.{id_eq, key_eq, tagged_eq}
use Rattle.crdt_rules.specs.Context.{Context, empty, node, child, register, counter, present, order}
use Rattle.crdt_rules.specs.Context.{clear_all}
use Rattle.crdt_rules.specs.Effect.{is_delete}
use Rattle.plain_rules.specs.declared.context.PlainContext.{PlainContext}
use Rattle.plain_rules.specs.declared.context.PlainContext.TheOpen.{PlainContext-F}
use Rattle.plain_rules.specs.declared.context.PlainContext.TheFolds.{fold-PlainContext}

-- the set has the id
abbrev pub is_in : List Id → Id → Bool
is_in ids i = list_any (λ j. id_eq j i) ids

-- the first child at a key; none is empty
abbrev pub child_in : List (Tagged × Context) → Tagged → Context
child_in [] t = empty
child_in (c ∷ rest) t = if tagged_eq c.0 t then c.1 else child_in rest t

abbrev pub present_in : List (Key × Id) → Key → Id → Bool
present_in [] k i = false
present_in (m ∷ rest) k i = present_in rest k i || (key_eq m.0 k && id_eq m.1 i)

-- the first value of an id at a key
abbrev pub first_value_at : {X : Type 0} → List (Key × Id × X) → Key → Id → Option X
first_value_at [] k i = None
first_value_at (e ∷ rest) k i = if key_eq e.0 k && id_eq e.1 i then Some e.2
    else first_value_at rest k i

-- a context, from the lists that are kept of it
abbrev pub whole : List (Tagged × Context) → List (Key × Id × Scalar) → List (Key × Id × ℤ)
    → List (Key × Id)
    → List Id → Context
whole children scalars numbers marks order =
    node (child_in children) (first_value_at scalars) (first_value_at numbers) (present_in marks) order

-- one level, with the contexts below it in place of the plain ones
abbrev pub level : PlainContext-F Context → Context
level c = whole c.children.items c.scalars.items c.numbers.items c.marks.items c.order.items

-- the context that a plain context is
abbrev pub context_of : PlainContext → Context
context_of = fold-PlainContext Context level

-- a child's context, of its plain one
abbrev pub seen : Tagged × PlainContext → Tagged × Context
seen c = (c.0, context_of c.1)

abbrev pub contexts_of : List (Tagged × PlainContext) → List (Tagged × Context)
contexts_of = map seen

-- the children whose keys pass a test are cleared
abbrev pub clear_child : (Key → Bool) → (Id → Bool) → Tagged × Context → Tagged × Context
clear_child at deps c = (c.0, if at (key_of c.0) then clear_all deps c.1 else c.1)

abbrev pub clear_each : (Key → Bool) → (Id → Bool) → List (Tagged × Context)
    → List (Tagged × Context)
clear_each at deps = map (clear_child at deps)

-- a context with nothing in it, as one that was made
abbrev pub blank_context : Context
blank_context = whole [] [] [] [] []

abbrev pub made : Context → Context
made empty = blank_context
made (node c r n p o) = node c r n p o

-- where the first child at a key is, or the length
abbrev pub place_of_child : List (Tagged × PlainContext) → Tagged → ℕ
place_of_child children t = prefix_len (λ c. not (tagged_eq c.0 t)) children

-- an operation has passed a key: it has marked it, unless it is a delete
abbrev pub passed_key : Id → Key → Mutation → Context → Context
passed_key id key m ctx =
    node (child ctx) (register ctx) (counter ctx) (λ k i. present ctx k i
    || (not (is_delete m) && key_eq key k && id_eq id i)) (order ctx)
