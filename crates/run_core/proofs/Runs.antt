-- A session over documents that were made is one over the wanted documents.
use Rattle.std.proofs.Common.{◌≡◌, ◌↔◌, ◌⊎◌, inl, inr, ℕ, Bool, List, [], Option, IsTrue, subst}
use Rattle.doc_rules.specs.Document.{Document}
use Rattle.session_rules.specs.Alone.{alone, begins_alone}
use Rattle.session_rules.specs.Session.{Session}
use Rattle.session_core.specs.Ended.{Ends}
use Rattle.session_rules.specs.declared.Ending.{Ending}
use Rattle.session_rules.specs.declared.Ending.TheVariants.{ReadFault, WriteFault}
use Rattle.run_core.specs.Names.{Wanted, first_replica}
use Rattle.run_core.specs.Served.{AreWanted, ServesWanted, ServesUntilFault}

pub of_wanted : (wanted : Wanted) (names : List (List ℕ)) (documents : List Document) → AreWanted wanted names documents
    → (had has out_before out_after : Option (List ℕ)) (why : Ending) (end : Session (List Document))
    → Ends (alone names) (record { documents = documents; opened = [] }) had has out_before out_after why end
    → Ends (alone wanted.documents) (begins_alone (first_replica wanted.name) wanted.documents) had has out_before out_after why end
of_wanted wanted names documents (same_names, made) had has out_before out_after why end session =
    subst (λ (ds : List Document). Ends (alone wanted.documents) (record { documents = ds; opened = [] }) had has out_before out_after why end) made
    (subst (λ (ns : List (List ℕ)). Ends (alone ns) (record { documents = documents; opened = [] }) had has out_before out_after why end) same_names session)

-- a fault is told where the device failed
pub until_fault : (wanted : Wanted) (why : Ending) (source_failed sink_failed : Bool) (had has out_before out_after : Option (List ℕ)) → ServesWanted wanted why had has out_before out_after
    → (IsTrue source_failed ↔ (why ≡ ReadFault)) → (IsTrue sink_failed ↔ (why ≡ WriteFault)) → (why ≡ ReadFault) ⊎ (why ≡ WriteFault)
    → ServesUntilFault wanted source_failed sink_failed had has out_before out_after
until_fault wanted why source_failed sink_failed had has out_before out_after serves read write (inl is) = inl (read.1 is, subst (λ w. ServesWanted wanted w had has out_before out_after) is serves)
until_fault wanted why source_failed sink_failed had has out_before out_after serves read write (inr is) = inr (write.1 is, subst (λ w. ServesWanted wanted w had has out_before out_after) is serves)
