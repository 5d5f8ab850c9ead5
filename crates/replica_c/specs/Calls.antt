-- The calls of a program in C.
use Rattle.std.specs.Prelude.{◌≡◌, ℕ, List, [], ◌++◌, length, take, drop, Bool, true, false, Option}
use Rattle.std.specs.Prelude.{Some, None}
use Rattle.replica_c.specs.declared.open.OpenReplica.{OpenReplica}
use Rattle.replica_c.specs.Serving.{TellsLine}

-- as many of the bytes as there is room for are put at the start of the room,
-- and the rest of the room stays
abbrev pub put_into : List ℕ → List ℕ → List ℕ
put_into bytes room = take (length room) bytes ++ drop (length bytes) room

-- the length of what was reported, or 0
abbrev pub told_length : Bool → List ℕ → ℕ
told_length true text = length text
told_length false text = 0

-- what the caller's room holds then
abbrev pub told_into : Bool → List ℕ → List ℕ → List ℕ
told_into true text room = put_into text room
told_into false text room = room

-- an open replica is asked: it answers the line, and its text goes into the caller's room
pub record IsCalledOn (o : OpenReplica) (line room : List ℕ) (n : ℕ) (after : Option OpenReplica) (filled : List ℕ)
    : Type 0 where
  pub then : OpenReplica
  pub told : Bool
  pub answers : TellsLine o.replica line told then.replica then.text.items
  pub after_is : after ≡ Some then
  pub count : n ≡ told_length told then.text.items
  pub given : filled ≡ told_into told then.text.items room

-- a handle is asked; where it owns no replica, nothing comes of it
abbrev pub CallsAsk : Option OpenReplica → List ℕ → List ℕ → ℕ → Option OpenReplica → List ℕ
    → Type 0
CallsAsk None line room n after filled = (n ≡ 0) × (after ≡ None) × (filled ≡ room)
CallsAsk (Some o) line room n after filled = IsCalledOn o line room n after filled

-- the text that was reported last is given again
abbrev pub GivesAgain : Option OpenReplica → List ℕ → ℕ → List ℕ → Type 0
GivesAgain None room n filled = (n ≡ 0) × (filled ≡ room)
GivesAgain (Some o) room n filled = (n ≡ length o.text.items)
    × (filled ≡ put_into o.text.items room)
