-- Where a cursor's steps lead.
use Rattle.std.specs.Prelude.{◌≡◌, ℕ, zero, suc, List, [], ◌∷◌, ◌++◌, length, nat_le, Bool, true}
use Rattle.std.specs.Prelude.{◌&&◌, Option, Some}
use Rattle.std.specs.Prelude.{option_map, slice_get, Result, Ok, Err, ok_or, MatchResult}
use Rattle.std.specs.Prelude.{if◌then◌else◌, ⊤}
use Rattle.std.specs.List.{list_any}
use Rattle.doc_api.specs.Words.{Id, Refusal, Cursor, Key, Tagged}
use Rattle.json_scalar.specs.declared.refusal.Refusal.TheVariants.{BadCursor, IndexPastEnd, AtHead}
use Rattle.json_scalar.specs.declared.refusal.Refusal.TheVariants.{TooDeep}
use Rattle.json_scalar.specs.Refusal.{and_then}
use Rattle.op_core.specs.Limits.{longest_key, longest_path}
use Rattle.op_core.specs.declared.cursor.Key.TheVariants.{Text, Element, Head}
use Rattle.op_core.specs.Shape.{is_head, is_placed, is_shallow, key_of}
use Rattle.crdt_rules.specs.Same.{id_eq}
use Rattle.crdt_rules.specs.Facts.{Facts}
use Rattle.doc_api.specs.declared.place.Step.{Step}
use Rattle.doc_api.specs.declared.place.Step.TheVariants.{Get, Index}
use Rattle.doc_rules.specs.Views.{into_map, into_list, AreElements}

-- ---- where the steps start

-- a text has at most 128 bytes
abbrev pub is_short : Key → Bool
is_short (Text text) = nat_le (length text) longest_key
is_short _ = true

-- an element, as the key after the path p, is in the list there
abbrev pub exists_in : Facts → List Tagged → Key → Bool
exists_in f p (Element i) = list_any (id_eq i) (f.order p)
exists_in f p _ = true

-- each key is within its limit and is where it is named; p is the way so far
abbrev pub path_exists : Facts → List Tagged → List Tagged → Key → Bool
path_exists f p [] k = is_short k && exists_in f p k
path_exists f p (t ∷ path) k = is_short (key_of t) && exists_in f p (key_of t)
    && path_exists f (p ++ t ∷ []) path k

-- the first cause against a start, if there is one
abbrev pub checked_start : Facts → Cursor → Result Cursor Refusal
checked_start f c =
    if is_shallow c.path then (if is_placed c.path c.key
    && path_exists f [] c.path c.key then Ok c else Err BadCursor) else Err TooDeep

-- ---- one step

-- a step goes neither from a head nor below 30 keys
abbrev pub may_go_on : Cursor → Result ⊤ Refusal
may_go_on c = if is_head c.key then Err AtHead else (if nat_le longest_path (length c.path) then Err TooDeep else Ok tt)

abbrev pub at_text : Cursor → List ℕ → Result Cursor Refusal
at_text c text =
    if is_short (Text text) then Ok (record { path = into_map c.path c.key; key = Text text }) else Err BadCursor

-- index 0 is the head, and 1 the first of the present elements
abbrev pub key_at : List Id → ℕ → Option Key
key_at ids zero = Some Head
key_at ids (suc n) = option_map Element (slice_get ids n)

abbrev pub at_index : Cursor → List Id → ℕ → Result Cursor Refusal
at_index c ids n =
    and_then (ok_or (key_at ids n) IndexPastEnd)
    (λ k. Ok (record { path = into_list c.path c.key; key = k }))

-- one step leads here, or is refused
abbrev pub Goes : Facts → Cursor → Step → Result Cursor Refusal → Type 0
Goes f c (Get text) r = r ≡ and_then (may_go_on c) (λ _. at_text c text)
Goes f c (Index n) r =
    (ids : List Id) × AreElements f c.path c.key ids
    × (r ≡ and_then (may_go_on c) (λ _. at_index c ids n))

-- ---- all steps

-- the steps lead here, or the first that is refused is refused so
abbrev pub Leads : Facts → List Step → Result Cursor Refusal → Result Cursor Refusal → Type 0
Leads f [] from r = r ≡ from
Leads f (step ∷ steps) from r =
    (next : Result Cursor Refusal) × MatchResult from (λ c. Goes f c step next) (λ e. next ≡ Err e)
    × Leads f steps next r

-- from a start that a caller passes in
abbrev pub Resolves : Facts → Cursor → List Step → Result Cursor Refusal → Type 0
Resolves f start steps r = Leads f steps (checked_start f start) r
