use Rattle.std.proofs.Common.{◌≡◌, ◌<◌, ◌∙◌, ℕ, length, get_or, map, rules, subst, sym}
use Rattle.std.specs.Io.KnownBytes.{Appends}
use Rattle.served_log.specs.Totals.{AreStored, total_lines}
use Rattle.server_core.specs.Sums.{AreBooksFrom}
use Rattle.served_log.specs.Known.{no_book, nothing_read}
use Rattle.served_log.proofs.Lines.{of_ok, serves}
use Rattle.served_log.proofs.Keeping.{alone_beside, copied_if_ran, grown_beside, known_if_well, ok_of_both, then_ok}
use Rattle.served_log.proofs.serve.serve_sessions.Goals as goal

pub returns-in_err-gathered-clause-grown : goal.returns-in_err-gathered-clause-grown
returns-in_err-gathered-clause-grown g c = grown_beside g.M.Marker.origin g.L.StoredLog.log _ c.requires.named c.serve_with_copier-ran.ensures.left

pub returns-in_err-gathered-clause-alone : goal.returns-in_err-gathered-clause-alone
returns-in_err-gathered-clause-alone g c = alone_beside g.M.Marker.origin g.L.StoredLog.log _ c.serve_with_copier-ran.ensures.left

pub agree_each-requires : goal.agree_each-requires
agree_each-requires g c =
    let gathered = c.in_ok-gathered.gathered in
    let same : gathered.followed.items ≡ c.as_slice.result.now = search rules in
    subst (λ books. AreBooksFrom 0 books) same (of_ok _ gathered c.in_ok-gathered.was c.serve_with_copier-ran.ensures.books)

pub returns-in-Ok-clause-served : goal.returns-in-Ok-clause-served
returns-in-Ok-clause-served g c =
    let gathered = c.in_ok-gathered.gathered in
    let (given, served, added) = of_ok _ gathered c.in_ok-gathered.was c.serve_with_copier-ran.ensures.sessions in
    let many = of_ok _ gathered c.in_ok-gathered.was c.serve_with_copier-ran.ensures.each in
    let same : c.as_slice-totals.result.now ≡ gathered.totals.items = search rules in
    let books : c.as_slice.result.now ≡ gathered.followed.items = search rules in
    let names = map (λ s. s.now) c.args.sessions.names.now in
    let written : Appends (g.W.Write.contents c.args.out.now) (g.W.Write.contents c.write_totals.new.out) (total_lines names gathered.totals.items) = search rules in
    let copied = copied_if_ran g.M.Marker.origin g.L.StoredLog.log _ gathered c.in_ok-gathered.was c.requires.named c.serve_with_copier-ran.ensures.left in
    let agreed : (k : ℕ) → k < length gathered.followed.items → k < length c.serve_with_copier-ran.new.seats → (get_or gathered.followed.items k no_book).ids ≡ (get_or c.serve_with_copier-ran.new.seats k nothing_read).ids =
    subst (λ bs. (k : ℕ) → k < length bs → k < length c.serve_with_copier-ran.new.seats → (get_or bs k no_book).ids ≡ (get_or c.serve_with_copier-ran.new.seats k nothing_read).ids) books c.agree_each.ensures in
    ok_of_both c.outcome_of.result c.outcome_of.ensures.copied c.outcome_of.ensures.stored
    (λ well stored. serves g.C.Connect.bytes g.C.Connect.follows g.M.Marker.origin _ _ names _ (map (λ t. t.items) gathered.endings.items) given gathered.followed.items _ gathered.totals.items _ _
    c.requires.named served added (sym gathered.totals.ok.0 ∙ many) agreed (known_if_well copied well c.requires.known) (subst (AreStored _ names) same stored) written)

pub returns-in-Ok-clause-copied : goal.returns-in-Ok-clause-copied
returns-in-Ok-clause-copied g c =
    then_ok c.outcome_of.result c.outcome_of.ensures.copied
    (copied_if_ran g.M.Marker.origin g.L.StoredLog.log _ c.in_ok-gathered.gathered c.in_ok-gathered.was c.requires.named c.serve_with_copier-ran.ensures.left).copied

pub returns-in-Ok-clause-works : goal.returns-in-Ok-clause-works
returns-in-Ok-clause-works g c =
    then_ok c.outcome_of.result c.outcome_of.ensures.copied
    (copied_if_ran g.M.Marker.origin g.L.StoredLog.log _ c.in_ok-gathered.gathered c.in_ok-gathered.was c.requires.named c.serve_with_copier-ran.ensures.left).works

pub returns-in-Ok-clause-grown : goal.returns-in-Ok-clause-grown
returns-in-Ok-clause-grown g c = grown_beside g.M.Marker.origin g.L.StoredLog.log _ c.requires.named c.serve_with_copier-ran.ensures.left

pub returns-in-Ok-clause-alone : goal.returns-in-Ok-clause-alone
returns-in-Ok-clause-alone g c = alone_beside g.M.Marker.origin g.L.StoredLog.log _ c.serve_with_copier-ran.ensures.left

pub returns-clause-grown : goal.returns-clause-grown
returns-clause-grown g c = grown_beside g.M.Marker.origin g.L.StoredLog.log _ c.requires.named c.serve_with_copier-ran.ensures.left
