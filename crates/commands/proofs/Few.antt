-- Good names are few.
use Rattle.std.proofs.Common.{◌≡◌, ◌≤◌, ◌&&◌, Bool, true, nat_le, length, arith, List, map, ℕ}
use Rattle.std.specs.Borrow.{Bor}
use Rattle.std.specs.List.{list_all}
use Rattle.std.proofs.lemmas.Bool.{and_parts, leb-true}
use Rattle.std.proofs.lemmas.List.{length-map}
use Rattle.lamport_id.specs.Name.{is_name}
use Rattle.locked_doc.specs.Numbers.{greatest_number}
use Rattle.run_core.specs.Limits.{longest_server_name, most_documents}
use Rattle.run_core.specs.Names.{all_differ, is_good}

-- the second of four tests that hold
second_holds : (a b c d : Bool) → (a && ((b && c) && d)) ≡ true → b ≡ true
second_holds a b c d holds = (and_parts b c (and_parts (b && c) d (and_parts a ((b && c) && d) holds).1).0).0

-- good names are few enough to be numbered
pub few_documents : (name : List ℕ) (documents : List (Bor (List ℕ))) → is_good name (map (λ s. s.now) documents) ≡ true → length documents ≤ greatest_number
few_documents name documents good =
    let names = map (λ s. s.now) documents in
    let few : nat_le (length names) most_documents ≡ true =
    second_holds (is_name name && nat_le (length name) longest_server_name) (nat_le (length names) most_documents) (list_all is_name names) (all_differ names) good in
    let many : length names ≡ length documents = length-map _ _ in
    let at_most : length names ≤ most_documents = leb-true (length names) most_documents few in
    omega (arith, at_most, many)
