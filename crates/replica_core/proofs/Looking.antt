-- What is read of a tree that says what the log makes is the replica's answer.
use Rattle.std.proofs.Common.{◌≡◌, ◌⊎◌, inl, inr, ℕ, List, Bool, true, false, Result, Ok, Err, refl, ap, subst}
use Rattle.std.specs.Prelude.{MatchBool}
use Rattle.doc_api.specs.Words.{Refusal, NoMemory, Cursor, Key, Tagged, Op}
use Rattle.json_scalar.specs.declared.refusal.Refusal.TheVariants.{AtHead}
use Rattle.op_core.specs.Shape.{is_head}
use Rattle.doc_api.specs.declared.ask.Counts.{Counts}
use Rattle.doc_api.specs.declared.ask.Look.{Look}
use Rattle.doc_api.specs.declared.ask.Query.TheVariants as query
use Rattle.doc_api.specs.declared.place.Place.{Place}
use Rattle.doc_api.specs.declared.reply.Reply.{Reply}
use Rattle.doc_api.specs.declared.reply.Reply.TheVariants as reply
use Rattle.doc_tree.specs.Nodes.{TreeValue}
use Rattle.doc_tree.specs.Nodes.{tree_facts, tree_role}
use Rattle.crdt_rules.specs.Log.{IsGood}
use Rattle.doc_view.specs.Readings as view
use Rattle.doc_view.specs.TreeValues.{tree_values}
use Rattle.doc_rules.specs.Answers.{MayAnswer, ReadsHere, LooksHere, IndexHere, reply_with}
use Rattle.doc_rules.specs.Resolve.{Resolves}
use Rattle.doc_rules.proofs.Looks.{look_answers}
use Rattle.replica_core.specs.AgreesWith.{AgreesWith}
use Rattle.replica_core.specs.Whole.{replica_of}

-- the reply made of a reader's answer is a look's, unless out of memory
pub reading_answered : {X : Type 0} (reads : List Tagged → Key → X → Type 0) (tell : X → Reply) (c : Cursor) (r : Result X Refusal) → view.ReadsUnlessMemory reads c r
    → (reply_with tell r ≡ reply.Refused NoMemory) ⊎ ReadsHere reads tell c (reply_with tell r)
reading_answered {X} reads tell c r h = by (is_head c.key) refl r h
  where
    by : (b : Bool) → is_head c.key ≡ b → (r : Result X Refusal) → MatchBool b (r ≡ Err AtHead) (view.GivesUnlessMemory (reads c.path c.key) r)
        → (reply_with tell r ≡ reply.Refused NoMemory) ⊎ ReadsHere reads tell c (reply_with tell r)
    by true e r h = inr (Err AtHead, (e, refl), ap (reply_with tell) h)
    by false e (Ok x) h = inr (Ok x, (e, h), refl)
    by false e (Err cause) h = inl (ap reply.Refused h)

-- a look where the steps lead
pub look_answered : (name : List ℕ) (log held : List Op) (mine : Counts) (tree : TreeValue) → AgreesWith tree log → IsGood log → (look : Look) (place : Place) (c : Cursor)
    (answer : Reply) → Resolves (tree_facts tree) place.start place.steps (Ok c)
    → (answer ≡ reply.Refused NoMemory) ⊎ LooksHere (tree_facts tree) (tree_values tree) look c answer
    → MayAnswer (replica_of name log held) mine (query.Look look place) answer
look_answered name log held mine tree agrees good look place c answer leads (inl memory) = inr memory
look_answered name log held mine tree agrees good look place c answer leads (inr here) =
    inl (look_answers (replica_of name log held) mine (tree_facts tree) (tree_role tree) good agrees look place (Ok c) answer leads here)

-- where the steps lead
pub resolve_answered : (name : List ℕ) (log held : List Op) (mine : Counts) (tree : TreeValue) → AgreesWith tree log → (place : Place) (c : Cursor)
    → Resolves (tree_facts tree) place.start place.steps (Ok c) → MayAnswer (replica_of name log held) mine (query.Resolve place) (reply.Resolved c)
resolve_answered name log held mine tree agrees place c leads =
    inl (Ok c, subst (λ f. Resolves f place.start place.steps (Ok c)) agrees.facts_are leads, refl)

-- how many present elements come up to the one where they lead
pub index_answered : (name : List ℕ) (log held : List Op) (mine : Counts) (tree : TreeValue) → AgreesWith tree log → (place : Place) (c : Cursor)
    (answer : Reply) → Resolves (tree_facts tree) place.start place.steps (Ok c) → IndexHere (tree_facts tree) c answer
    → MayAnswer (replica_of name log held) mine (query.Index place) answer
index_answered name log held mine tree agrees place c answer leads here =
    inl (Ok c, subst (λ f. Resolves f place.start place.steps (Ok c)) agrees.facts_are leads, subst (λ f. IndexHere f c answer) agrees.facts_are here)
