-- What a write does to the facts of a document, and to the roles of its places.
use Rattle.std.specs.Prelude.{ℤ, List, Bool, ◌&&◌, ◌||◌, not, Option, Some, None, if◌then◌else◌}
use Rattle.doc_api.specs.Words.{Id, Scalar, Key, Tagged}
use Rattle.doc_api.specs.declared.role.Role.{Role}
use Rattle.doc_api.specs.declared.role.Role.TheVariants.{Through}
use Rattle.crdt_rules.specs.Same.{id_eq, key_eq, path_eq}
use Rattle.crdt_rules.specs.Within.{is_within}
use Rattle.crdt_rules.specs.Facts.{Facts}

-- the facts without what the ids of deps put at a place and below it
abbrev pub clear_facts_at : Facts → List Tagged → Key → (Id → Bool) → Facts
clear_facts_at f p k deps =
    record {
      present = λ q j i. f.present q j i && not (is_within q j p k && deps i);
      register = λ q j i. if is_within q j p k && deps i then None else f.register q j i;
      counter = λ q j i. if is_within q j p k && deps i then None else f.counter q j i;
      order = f.order;
    }

-- a place, and those above it, are present by an id
abbrev pub presence_facts : Facts → List Tagged → Key → Id → Facts
presence_facts f p k id = record f { present = λ q j i. f.present q j i || (is_within p k q j && id_eq id i) }

-- one more scalar in the register of a place
abbrev pub enter_facts : Facts → List Tagged → Key → Id → Scalar → Facts
enter_facts f p k id s =
    record f { register = λ q j i. if path_eq p q && key_eq k j && id_eq id i then Some s else f.register q j i }

-- one more number in the counter of a place
abbrev pub count_facts : Facts → List Tagged → Key → Id → ℤ → Facts
count_facts f p k id n =
    record f { counter = λ q j i. if path_eq p q && key_eq k j && id_eq id i then Some n else f.counter q j i }

-- the order of a list is changed
abbrev pub order_facts : Facts → List Tagged → (List Id → List Id) → Facts
order_facts f p change = record f { order = λ q. if path_eq p q then change (f.order q) else f.order q }

-- if there is a scalar
abbrev pub enter_if : Facts → List Tagged → Key → Id → Option Scalar → Facts
enter_if f p k id None = f
enter_if f p k id (Some s) = enter_facts f p k id s

-- an assignment at a place clears it, makes it and those above it present, and enters a scalar
abbrev pub put_facts : Facts → List Tagged → Key → (Id → Bool) → Id → Option Scalar → Facts
put_facts f p k deps id scalar = enter_if (presence_facts (clear_facts_at f p k deps) p k id) p k id scalar

-- the roles after that
abbrev pub put_role : (List Tagged → Key → Id → Option Role) → List Tagged → Key → (Id → Bool) → Id
    → Role
    → List Tagged → Key → Id → Option Role
put_role before p k deps id role q j i =
    if is_within p k q j && id_eq id i
    then Some (if path_eq p q && key_eq k j then role else Through)
    else if is_within q j p k && deps i then None else before q j i

-- an add at a place makes it and those above it present, and enters a number
abbrev pub add_facts : Facts → List Tagged → Key → Id → ℤ → Facts
add_facts f p k id n = count_facts (presence_facts f p k id) p k id n

-- the roles after that
abbrev pub add_role : (List Tagged → Key → Id → Option Role) → List Tagged → Key → Id → Role
    → List Tagged → Key → Id → Option Role
add_role before p k id role q j i =
    if is_within p k q j && id_eq id i
    then Some (if path_eq p q && key_eq k j then role else Through)
    else before q j i
