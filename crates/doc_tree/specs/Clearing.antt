-- The clearing of the rules at any place of a document.
use Rattle.std.specs.Prelude.{List, [], ◌∷◌, Bool, if◌then◌else◌}
use Rattle.doc_api.specs.Words.{Id, Key, Tagged}
use Rattle.crdt_rules.specs.Same.{tagged_eq}
use Rattle.crdt_rules.specs.Context.{Context, node, child, register, counter, present, order}
use Rattle.crdt_rules.specs.Context.{clear_elem}

-- the context at the end of a path is cleared at a key, and all else stays
abbrev pub clear_at : (Id → Bool) → List Tagged → Key → Context → Context
clear_at deps [] k ctx = clear_elem deps k ctx
clear_at deps (t ∷ path) k ctx =
    node
    (λ s. if tagged_eq t s then clear_at deps path k (child ctx t) else child ctx s)
    (register ctx)
    (counter ctx)
    (present ctx)
    (order ctx)
