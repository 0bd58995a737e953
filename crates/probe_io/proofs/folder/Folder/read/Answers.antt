use Rattle.std.proofs.Common.{◌≡◌, ◌-◌, map, min, length, take, drop, Some, option_map, ap, sym, ◌∙◌}
use Rattle.probe_io.specs.Files.{left_in}
use Rattle.probe_io.specs.Memory.{told_file, file_at}
use Rattle.probe_io.proofs.WrittenLemmas.{slice_from}
use Rattle.probe_io.proofs.FolderLemmas.{left-stands, left-after}
use Rattle.probe_io.proofs.folder.Folder.read.Goals as goal

-- what is left in the started file, as its place says
whole : (c : goal.After-self-1) → left_in c.args.self.now.files c.args.self.now.at
    ≡ left_in (map told_file c.self.inside.files.items) (Some ((file_at (map told_file c.self.inside.files.items) c.in-Some.cursor.file).0, c.in-Some.cursor.place))
whole c =
    ap (λ v. left_in v.files v.at) (sym c.self.view_is)
    ∙ ap (λ o. left_in (map told_file c.self.inside.files.items) (option_map (λ u. ((file_at (map told_file c.self.inside.files.items) u.file).0, u.place)) o)) c.in-Some.is

-- and as the slice that the code copies from
slice : (c : goal.After-self-1) → left_in c.args.self.now.files c.args.self.now.at
    ≡ take (length c.deref.result.now - c.in-Some.cursor.place) (drop c.in-Some.cursor.place c.deref.result.now)
slice c =
    whole c
    ∙ left-stands c.self.inside.files.items c.in-Some.cursor.file c.in-Some.cursor.place c.index.result.now (c.self.invariant c.in-Some.cursor c.in-Some.is) c.index.ensures
    ∙ ap (λ l. drop c.in-Some.cursor.place l) (sym c.deref.ensures.value)
    ∙ sym (slice_from c.in-Some.cursor.place c.deref.result.now)

pub returns-clause-count : goal.returns-clause-count
returns-clause-count c = c.copy_front-count.ensures.count ∙ ap (λ l. min c.args.most (min (length c.args.buf.now) (length l))) (sym (slice c))

pub returns-clause-bytes : goal.returns-clause-bytes
returns-clause-bytes c =
    left-after c.in-Some.cursor.place c.copy_front-count.result _ _ _ (whole c)
    (c.copy_front-count.ensures.bytes ∙ ap (λ l. take c.copy_front-count.result l) (sym (slice c)))
