-- What is shown depends on the values of present ids alone.
use Rattle.std.proofs.Common.{inl, inr, List, Ok, Err, sym, ◌∙◌}
use Rattle.doc_api.specs.Words.{Id, Val, Cursor, Key, Tagged}
use Rattle.doc_api.specs.declared.ask.Look.{Look}
use Rattle.doc_api.specs.declared.ask.Look.TheVariants as look
use Rattle.doc_api.specs.declared.reply.Reply.{Reply}
use Rattle.doc_api.specs.declared.reply.Reply.TheVariants as reply
use Rattle.op_core.specs.declared.cursor.Key.TheVariants.{Text, Element}
use Rattle.crdt_rules.specs.Facts.{Facts}
use Rattle.doc_rules.specs.Views.{Values, AgreeOnPresent, into_map, into_list, AreConflicts}
use Rattle.doc_rules.specs.Answers.{ReadsHere, LooksHere}
use Rattle.doc_rules.specs.Encoded.{ConflictsText}
use Rattle.doc_rules.specs.Shown.{ShowsText, IsPut, HasMap, HasList, Shown, MapShown, ListShown, Fields, Elements, shown, no_map, a_map, no_list, a_list, no_fields, field, no_elements, element, Shows, ShowsMap, ShowsList, ShowsFields, ShowsElements}

put_moved : (f : Facts) (v w : Values) → AgreeOnPresent f v w → (p : List Tagged) (k : Key) (x : Val) → IsPut f v p k x → IsPut f w p k x
put_moved f v w same p k x h = (h.0, h.1, sym (same p k h.0 h.1) ∙ h.2)

map_moved : (f : Facts) (v w : Values) → AgreeOnPresent f v w → (p : List Tagged) (k : Key) → HasMap f v p k → HasMap f w p k
map_moved f v w same p k (inl key) = inl key
map_moved f v w same p k (inr put) = inr (put_moved f v w same p k Val.EmptyMap put)

list_moved : (f : Facts) (v w : Values) → AgreeOnPresent f v w → (p : List Tagged) (k : Key) (ids : List Id) → HasList f v p k ids → HasList f w p k ids
list_moved f v w same p k ids (inl some) = inl some
list_moved f v w same p k ids (inr put) = inr (put_moved f v w same p k Val.EmptyList put)

pub conflicts_same : (f : Facts) (v w : Values) → AgreeOnPresent f v w → (p : List Tagged) (k : Key) (xs : List (Id × Val)) → AreConflicts f v p k xs → AreConflicts f w p k xs
conflicts_same f v w same p k xs h = record {
  rising = h.rising;
  each = λ x c. let r = h.each x c in (r.0, sym (same p k x.0 r.0) ∙ r.1);
  all = λ x r. h.all x (r.0, same p k x.0 r.0 ∙ r.1);
}

module _ (f : Facts) (v w : Values) (same : AgreeOnPresent f v w) (back : AgreeOnPresent f w v) where
  mutual
    pub shown_moved : (p : List Tagged) (k : Key) (x : Shown) → Shows f v p k x → Shows f w p k x
    shown_moved p k (shown m l entries count) h = (map_shown p k m h.0, list_shown p k l h.1, h.2, h.3)

    map_shown : (p : List Tagged) (k : Key) (x : MapShown) → ShowsMap f v p k x → ShowsMap f w p k x
    map_shown p k no_map h = λ has. h (map_moved f w v back p k has)
    map_shown p k (a_map fields) h = (map_moved f v w same p k h.0, h.1, fields_shown (into_map p k) fields h.2)

    list_shown : (p : List Tagged) (k : Key) (x : ListShown) → ShowsList f v p k x → ShowsList f w p k x
    list_shown p k no_list h = (h.0, h.1, λ has. h.2 (list_moved f w v back p k h.0 has))
    list_shown p k (a_list es) h = (h.0, h.1, list_moved f v w same p k h.0 h.2, elements_shown (into_list p k) h.0 es h.3)

    fields_shown : (p : List Tagged) (x : Fields) → ShowsFields f v p x → ShowsFields f w p x
    fields_shown p no_fields h = tt
    fields_shown p (field name e fields) h = (shown_moved p (Text name) e h.0, fields_shown p fields h.1)

    elements_shown : (p : List Tagged) (ids : List Id) (x : Elements) → ShowsElements f v p ids x → ShowsElements f w p ids x
    elements_shown p ids no_elements h = h
    elements_shown p ids (element e es) h = (h.0, h.1, h.2, shown_moved p (Element h.0) e h.3, elements_shown p h.1 es h.4)

pub shows_same : (f : Facts) (v w : Values) → AgreeOnPresent f v w → (p : List Tagged) (k : Key) (x : Shown) → Shows f v p k x → Shows f w p k x
shows_same f v w same = shown_moved f v w same (λ p k i h. sym (same p k i h))

-- so does each look
here_moved : {X : Type 0} (reads reads' : List Tagged → Key → X → Type 0) (reply_of : X → Reply) → ((p : List Tagged) (k : Key) (x : X) → reads p k x → reads' p k x)
    → (c : Cursor) (answer : Reply) → ReadsHere reads reply_of c answer → ReadsHere reads' reply_of c answer
here_moved reads reads' reply_of move c answer (Ok x, h, is) = (Ok x, (h.0, move c.path c.key x h.1), is)
here_moved reads reads' reply_of move c answer (Err e, h, is) = (Err e, h, is)

pub looks_same : (f : Facts) (v w : Values) → AgreeOnPresent f v w → (l : Look) (c : Cursor) (answer : Reply) → LooksHere f v l c answer → LooksHere f w l c answer
looks_same f v w same look.Conflicts c answer h =
    here_moved (ConflictsText f v) (ConflictsText f w) reply.Conflicts (λ p k text h. (h.0, conflicts_same f v w same p k h.0 h.1, h.2)) c answer h
looks_same f v w same look.Show c answer h =
    here_moved (ShowsText f v) (ShowsText f w) reply.Show (λ p k text h. (h.0, shows_same f v w same p k h.0 h.1, h.2)) c answer h
looks_same f v w same look c answer h = h
