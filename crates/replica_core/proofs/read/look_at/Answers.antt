use Rattle.std.proofs.Common.{◌≡◌, ◌⊎◌, sym, subst}
use Rattle.json_scalar.specs.declared.refusal.Refusal.TheVariants.{NoMemory}
use Rattle.doc_api.specs.declared.ask.Look.TheVariants as look
use Rattle.doc_api.specs.declared.reply.Reply.{Reply}
use Rattle.doc_api.specs.declared.reply.Reply.TheVariants as reply
use Rattle.doc_tree.specs.Nodes.{tree_facts}
use Rattle.doc_view.specs.TreeValues.{tree_values}
use Rattle.doc_rules.specs.Answers.{LooksHere}
use Rattle.doc_rules.specs.Views.{AreValues, IsSum}
use Rattle.doc_rules.specs.Shown.{ShowsText}
use Rattle.doc_rules.specs.Encoded.{KeysText, ItemsText, ConflictsText}
use Rattle.replica_core.proofs.Looking.{reading_answered}
use Rattle.replica_core.proofs.read.look_at.Goals as goal

pub returns-in-Keys : goal.returns-in-Keys
returns-in-Keys c =
    rw c.in-Keys.is
    (subst (λ (a : Reply). (a ≡ reply.Refused NoMemory) ⊎ LooksHere (tree_facts c.args.tree.now) (tree_values c.args.tree.now) look.Keys c.args.cursor.now a)
    (sym c.keys_reply.ensures) (reading_answered (KeysText (tree_facts c.args.tree.now)) (λ x. reply.Keys x) c.args.cursor.now c.keys_text.result c.keys_text.ensures))

pub returns-in-Values : goal.returns-in-Values
returns-in-Values c =
    rw c.in-Values.is
    (subst (λ (a : Reply). (a ≡ reply.Refused NoMemory) ⊎ LooksHere (tree_facts c.args.tree.now) (tree_values c.args.tree.now) look.Values c.args.cursor.now a)
    (sym c.values_reply.ensures) (reading_answered (AreValues (tree_facts c.args.tree.now)) (λ x. reply.Values x) c.args.cursor.now c.values.result c.values.ensures))

pub returns-in-Items : goal.returns-in-Items
returns-in-Items c =
    rw c.in-Items.is
    (subst (λ (a : Reply). (a ≡ reply.Refused NoMemory) ⊎ LooksHere (tree_facts c.args.tree.now) (tree_values c.args.tree.now) look.Items c.args.cursor.now a)
    (sym c.items_reply.ensures) (reading_answered (ItemsText (tree_facts c.args.tree.now)) (λ x. reply.Items x) c.args.cursor.now c.items_text.result c.items_text.ensures))

pub returns-in-Conflicts : goal.returns-in-Conflicts
returns-in-Conflicts c =
    rw c.in-Conflicts.is
    (subst (λ (a : Reply). (a ≡ reply.Refused NoMemory) ⊎ LooksHere (tree_facts c.args.tree.now) (tree_values c.args.tree.now) look.Conflicts c.args.cursor.now a)
    (sym c.conflicts_reply.ensures) (reading_answered (ConflictsText (tree_facts c.args.tree.now) (tree_values c.args.tree.now)) (λ x. reply.Conflicts x) c.args.cursor.now c.conflicts_text.result c.conflicts_text.ensures))

pub returns-in-Show : goal.returns-in-Show
returns-in-Show c =
    rw c.in-Show.is
    (subst (λ (a : Reply). (a ≡ reply.Refused NoMemory) ⊎ LooksHere (tree_facts c.args.tree.now) (tree_values c.args.tree.now) look.Show c.args.cursor.now a)
    (sym c.show_reply.ensures) (reading_answered (ShowsText (tree_facts c.args.tree.now) (tree_values c.args.tree.now)) (λ x. reply.Show x) c.args.cursor.now c.show.result c.show.ensures))

pub returns-in-Sum : goal.returns-in-Sum
returns-in-Sum c =
    rw c.in-Sum.is
    (subst (λ (a : Reply). (a ≡ reply.Refused NoMemory) ⊎ LooksHere (tree_facts c.args.tree.now) (tree_values c.args.tree.now) look.Sum c.args.cursor.now a)
    (sym c.sum_reply.ensures) (reading_answered (IsSum (tree_facts c.args.tree.now)) (λ x. reply.Sum x) c.args.cursor.now c.sum.result c.sum.ensures.reading))
