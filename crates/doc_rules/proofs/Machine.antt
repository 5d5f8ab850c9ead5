-- The events of a replica on a few histories, computed.
use Rattle.std.proofs.Common.{◌≡◌, inl, ℕ, pos, List, [], ◌∷◌, Ok, Err, refl, codes}
use Rattle.doc_api.specs.Words.{Id, Val, Cursor, Key, Tagged, Mutation, Assign, Insert, Delete, Op}
use Rattle.json_scalar.specs.declared.refusal.Refusal.TheVariants.{BadFront, Forked, BadCursor, IdConflict, OwnName, AtHead, IndexPastEnd, NotInList}
use Rattle.json_scalar.specs.declared.scalar.Scalar.TheVariants.{Text as TextValue, Int}
use Rattle.json_scalar.specs.declared.scalar.Val.TheVariants.{Scalar as ScalarVal, EmptyList}
use Rattle.op_core.specs.declared.cursor.Key.TheVariants.{Doc, Text, Element, Head}
use Rattle.op_core.specs.declared.cursor.Tagged.TheVariants.{Map as MapAt, List as ListAt}
use Rattle.doc_rules.specs.Replica.{Replica}
use Rattle.doc_rules.specs.Replica.Drains.{done, logs}
use Rattle.doc_rules.specs.Events.{Event}
use Rattle.doc_api.specs.declared.place.Step.{Step}
use Rattle.doc_api.specs.declared.place.Step.TheVariants.{Get, Index}
use Rattle.doc_rules.specs.Role.{logged_role}
use Rattle.doc_api.specs.declared.role.Role.TheVariants.{Through, List as ListRole, Scalar as ScalarRole}
use Rattle.doc_rules.specs.Sorted.AreThose.{none}
use Rattle.doc_rules.proofs.Causes.{fits_from}
use Rattle.doc_api.specs.declared.place.Place.{Place}
use Rattle.doc_api.specs.declared.ask.Command.TheVariants.{Change, Deliver}
use Rattle.doc_api.specs.declared.reply.Reply.TheVariants.{Applied, Known, Held, Refused}

abbrev p : List ℕ
p = codes "p"

abbrev q : List ℕ
q = codes "q"

abbrev id : ℕ → List ℕ → Id
id n name = record { counter = n; replica = name }

abbrev op : ℕ → List ℕ → List (List ℕ × ℕ) → List Tagged → Key → Mutation → Op
op n name front path key m = record { id = id n name; front = front; cursor = record { path = path; key = key }; mutation = m }

abbrev root : List Tagged
root = MapAt Doc ∷ []

abbrev server : List ℕ
server = codes "srv-1"

abbrev new : Replica
new = record { name = server; log = []; held = [] }

abbrev k : Key
k = Text (codes "k")

abbrev int : ℕ → Val
int n = ScalarVal (Int (pos n))

-- three in a chain, passed in from the last to the first
abbrev third : Op
third = op 3 p ((p, 2) ∷ []) root k (Assign (int 3))

abbrev second : Op
second = op 2 p ((p, 1) ∷ []) root k (Assign (int 2))

abbrev first : Op
first = op 1 p [] root k (Assign (int 1))

abbrev holds : List Op → Replica
holds ops = record { name = server; log = []; held = ops }

third_waits : Event new (Deliver third) (Held (id 2 p ∷ [])) (holds (third ∷ []))
third_waits = inl (refl, refl)

second_waits : Event (holds (third ∷ [])) (Deliver second) (Held (id 1 p ∷ [])) (holds (second ∷ third ∷ []))
second_waits = inl (refl, refl)

-- the first releases both
released : Event (holds (second ∷ third ∷ [])) (Deliver first) (Applied 3 0 (id 1 p)) (record { name = server; log = first ∷ second ∷ third ∷ []; held = [] })
released =
    inl (record {
      count = 2;
      dropped = 0;
      reply_is = refl;
      drains = logs {op = second} refl (fits_from second (first ∷ []) refl refl) (logs {op = third} refl (fits_from third (first ∷ second ∷ []) refl refl) (done refl));
    })

-- ---- operations that break the rules

abbrev o : List ℕ
o = codes "o"

abbrev l : Key
l = Text (codes "l")

abbrev in_list : List Tagged
in_list = MapAt Doc ∷ ListAt l ∷ []

abbrev text : List ℕ → Val
text bytes = ScalarVal (TextValue bytes)

abbrev element : Op
element = op 2 o ((o, 1) ∷ []) in_list Head (Insert (text (codes "a")))

abbrev three : Replica
three =
    record {
      name = server;
      log = op 1 o [] root l (Assign EmptyList) ∷ element ∷ op 3 q ((o, 2) ∷ []) root k (Assign (int 1)) ∷ [];
      held = [];
    }

-- it leaves out what the operation that it follows depends on
bad_front : Event three (Deliver (op 4 p ((q, 3) ∷ []) root k (Assign (int 2)))) (Refused BadFront) three
bad_front = inl (refl, refl)

forked : Event three (Deliver (op 2 q ((o, 1) ∷ []) root k (Assign (int 3)))) (Refused (Forked 3)) three
forked = inl (refl, refl)

-- the element isn't covered
bad_cursor : Event three (Deliver (op 2 p ((o, 1) ∷ []) in_list (Element (id 2 o)) (Assign (text (codes "b"))))) (Refused BadCursor) three
bad_cursor = inl (refl, refl)

own_name : Event three (Deliver (op 1 server [] root k (Assign (int 2)))) (Refused OwnName) three
own_name = inl (refl, refl)

id_conflict : Event three (Deliver (op 2 o ((o, 1) ∷ []) in_list Head (Insert (text (codes "b"))))) (Refused IdConflict) three
id_conflict = inl (refl, refl)

known_again : Event three (Deliver element) Known three
known_again = inl (refl, refl)

-- ---- changes at a place

abbrev document : Cursor
document = record { path = []; key = Doc }

abbrev made : Replica
made = record { name = server; log = op 1 server [] root l (Assign EmptyList) ∷ []; held = [] }

abbrev place : List Step → Place
place steps = record { start = document; steps = steps }

abbrev at_l : Cursor
at_l = record { path = root; key = l }

makes_list : Event new (Change (place (Get (codes "l") ∷ [])) (Assign EmptyList)) (Applied 1 0 (id 1 server)) made
makes_list = inl (Ok at_l, (Ok at_l, refl, refl), record { count = 0; dropped = 0; reply_is = refl; drains = done refl })

past_end : Event made (Change (place (Get (codes "l") ∷ Index 1 ∷ [])) Delete) (Refused IndexPastEnd) made
past_end = inl (Err IndexPastEnd, (Ok at_l, refl, (Err IndexPastEnd, ([], none, refl), refl)), (refl, refl))

at_head : Event made (Change (place (Get (codes "l") ∷ Index 0 ∷ [])) Delete) (Refused AtHead) made
at_head =
    let head : Cursor = record { path = in_list; key = Head } in
    inl (Ok head, (Ok at_l, refl, (Ok head, ([], none, refl), refl)), (refl, refl))

not_in_list : Event made (Change (place (Get (codes "l") ∷ [])) (Insert (int 1))) (Refused NotInList) made
not_in_list = inl (Ok at_l, (Ok at_l, refl, refl), (refl, refl))

-- ---- roles

put_list : logged_role three.log root l (id 1 o) ≡ ListRole
put_list = refl

passed : logged_role three.log root l (id 2 o) ≡ Through
passed = refl

put_scalar : logged_role three.log in_list (Element (id 2 o)) (id 2 o) ≡ ScalarRole
put_scalar = refl
