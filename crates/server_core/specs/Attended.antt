-- What became of connections.
use Rattle.std.specs.Prelude.{◌≡◌, ℕ, List, [], ◌∷◌, ◌++◌, map, Option, Some, None}
use Rattle.std.specs.List.{AllZip, flat_map}
use Rattle.share_ledger.specs.Begun.{Origin}
use Rattle.doc_rules.specs.Seats as seats
use Rattle.session_rules.specs.Session.{OpenDocument}
use Rattle.session_rules.specs.Shelf.{begins_at_shelf, shared}
use Rattle.session_rules.specs.declared.Ending.{Ending}
use Rattle.session_core.specs.Ended.{Ends}
use Rattle.server_core.specs.Ends.{AreSeatEnds}

-- What the source of a connection has and what its sink has taken, where these are known.
pub record Bytes : Type 0 where
  pub source : Option (List ℕ)
  pub sink : Option (List ℕ)

-- neither is known
abbrev pub unknown : Bytes
unknown = record { source = None; sink = None }

-- A session over shared documents of these names and origins that ended for this
-- cause. It read from the connection's source and wrote to its sink, and these are
-- the ends of the seats that it had then.
pub record IsEndedSession (origin : ℕ → Origin) (names : List (List ℕ)) (connection : Bytes) (why : Ending)
    (ends : List (Option seats.Seat)) : Type 0 where
  pub has : Option (List ℕ)
  pub holds : Option (List ℕ)
  pub opened : List OpenDocument
  pub session : Ends (shared origin names) begins_at_shelf connection.source has
      connection.sink holds why (record { documents = tt; opened = opened })
  pub given_back : AreSeatEnds names opened ends

-- a session, or none, which gave back nothing
abbrev pub IsAttended : (ℕ → Origin) → List (List ℕ) → Bytes → Option Ending
    → List (Option seats.Seat) → Type 0
IsAttended origin names connection (Some why) ends = IsEndedSession origin names connection why ends
IsAttended origin names connection None ends = ends ≡ []

-- of each connection, in their order
abbrev pub AreAttended : (ℕ → Origin) → List (List ℕ) → List Bytes → List (Option Ending)
    → List (List (Option seats.Seat)) → Type 0
AreAttended origin names (connection ∷ all) (why ∷ endings) (ends ∷ sessions) =
    IsAttended origin names connection why ends × AreAttended origin names all endings sessions
AreAttended origin names [] [] [] = Unit {0}
AreAttended origin names [] [] (ends ∷ sessions) = ⊥
AreAttended origin names [] (why ∷ endings) sessions = ⊥
AreAttended origin names (connection ∷ all) [] sessions = ⊥
AreAttended origin names (connection ∷ all) (why ∷ endings) [] = ⊥

-- each of these follows the one before it, and the first of them this one
abbrev pub Follow : {C : Type 0} → (C → C → Type 0) → C → List C → Type 0
Follow follows c [] = Unit {0}
Follow follows c (next ∷ later) = follows c next × Follow follows next later

-- The connections that one thread serves, one after another: none; or its own, and then others, of
-- which each follows the one before.
abbrev pub IsLine : {C : Type 0} → (C → C → Type 0) → C → List C → Type 0
IsLine follows own [] = Unit {0}
IsLine follows own (c ∷ later) = (c ≡ own) × Follow follows c later

-- What a thread did whose own connection is this: sessions over a line of connections, that ended
-- so and gave back these ends.
pub record Attends {C : Type 0} (origin : ℕ → Origin) (names : List (List ℕ)) (bytes : C → Bytes)
    (follows : C → C → Type 0) (first : C) (endings : List (Option Ending))
    (given : List (List (Option seats.Seat))) : Type 0 where
  pub served : List C
  pub line : IsLine follows first served
  pub attended : AreAttended origin names (map bytes served) endings given

-- what is in these lists, one behind the other
abbrev pub all_of : {X : Type 0} → List (List X) → List X
all_of lists = flat_map (λ list. list) lists

-- What threads did whose own connections are these: each served a line of connections, and of all
-- the connections that were served, in order, these are the endings and the ends.
pub record AreServed {C : Type 0} (origin : ℕ → Origin) (names : List (List ℕ)) (bytes : C → Bytes)
    (follows : C → C → Type 0) (connections : List C) (endings : List (List (Option Ending)))
    (given : List (List (Option seats.Seat))) : Type 0 where
  pub served : List (List C)
  pub lines : AllZip (IsLine follows) connections served
  pub attended : AreAttended origin names (map bytes (all_of served)) (all_of endings) given
