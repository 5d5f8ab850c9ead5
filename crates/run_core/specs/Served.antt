-- What a run of the program has read and written.
use Rattle.std.specs.Prelude.{◌≡◌, ◌≢◌, ◌⊎◌, ℕ, Bool, List, [], Option, IsTrue, map}
use Rattle.doc_rules.specs.Document.{Document, new_document}
use Rattle.session_rules.specs.Alone.{alone, begins_alone}
use Rattle.session_rules.specs.Session.{Session}
use Rattle.session_rules.specs.declared.Ending.{Ending}
use Rattle.session_rules.specs.declared.Ending.TheVariants.{ReadFault, WriteFault}
use Rattle.session_core.specs.Ended.{Ends}
use Rattle.run_core.specs.Names.{Wanted, first_replica}

-- Documents of the wanted names, which are new and the server's that has its name
-- with the number of a first start.
abbrev pub AreWanted : Wanted → List (List ℕ) → List Document → Type 0
AreWanted wanted names documents =
    (names ≡ wanted.documents)
    × (documents ≡ map (λ n. new_document (first_replica wanted.name) [] 1) wanted.documents)

-- What a source had and has, and what a sink had and has: a session over new documents of the
-- wanted names, in which the server has its name with the number of a first start, and which ended
-- for this cause.
abbrev pub ServesWanted : Wanted → Ending → Option (List ℕ) → Option (List ℕ) → Option (List ℕ)
    → Option (List ℕ)
    → Type 0
ServesWanted wanted why had has out_before out_after =
    (end : Session (List Document))
    × Ends (alone wanted.documents) (begins_alone (first_replica wanted.name) wanted.documents)
    had has out_before out_after why end

-- a whole session, which no device's fault ended
abbrev pub ServesAll : Wanted → Option (List ℕ) → Option (List ℕ) → Option (List ℕ)
    → Option (List ℕ) → Type 0
ServesAll wanted had has out_before out_after =
    (why : Ending) × (why ≢ ReadFault) × (why ≢ WriteFault)
    × ServesWanted wanted why had has out_before out_after

-- a session up to the fault of the source or of the sink, of which it is said whether they have
-- failed
abbrev pub ServesUntilFault : Wanted → Bool → Bool → Option (List ℕ) → Option (List ℕ)
    → Option (List ℕ)
    → Option (List ℕ) → Type 0
ServesUntilFault wanted source_failed sink_failed had has out_before out_after =
    (IsTrue source_failed × ServesWanted wanted ReadFault had has out_before out_after)
    ⊎ (IsTrue sink_failed × ServesWanted wanted WriteFault had has out_before out_after)
