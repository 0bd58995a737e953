use Rattle.std.proofs.Common.{◌≡◌, ℕ, List, map, position, bytes_eq, is_some, option_map, Option, Some, ap, sym, subst, ◌∙◌}
use Rattle.std.specs.Global.{Global}
use Rattle.std.specs.declared.vec.Vec.{Vec}
use Rattle.probe_io.specs.declared.folder.Cursor.{Cursor}
use Rattle.probe_io.specs.Files.{file_of}
use Rattle.probe_io.specs.Memory.{told_file, StandsIn}
use Rattle.probe_io.proofs.FolderLemmas.{position-map, named, found, absent, stands}
use Rattle.probe_io.proofs.folder.Folder.start.Goals as goal

-- where the slice that the code looks through has a name, the told files have it
told_at : (files : List (List ℕ × Vec ℕ Global)) (slice : List (List ℕ × Vec ℕ Global)) (name : List ℕ) (o : Option ℕ) → slice ≡ files
    → o ≡ position (λ f. bytes_eq f.0 name) slice → position (λ f. bytes_eq f.0 name) (map told_file files) ≡ o
told_at files slice name o same is =
    position-map (λ f. bytes_eq f.0 name) told_file files ∙ ap (λ l. position (λ f. bytes_eq f.0 name) l) (sym same) ∙ sym is

pub invariant_of-self : goal.invariant_of-self
invariant_of-self c = λ x same.
    let e : record { file = c.in-Some.file; place = 0 } ≡ x = cc in
    let P : Cursor → Type 0 = λ y. StandsIn (map told_file c.self.inside.files.items) y.file y.place in
    subst P e (stands _ c.args.name.now _ (told_at _ _ _ _ c.deref.ensures.value c.in-Some.ensures))

pub returns-in-Some-clause-found : goal.returns-in-Some-clause-found
returns-in-Some-clause-found c =
    ap is_some (
    sym (ap (λ o. option_map (λ f. f.1) o) (found _ c.args.name.now _ (told_at _ _ _ _ c.deref.ensures.value c.in-Some.ensures)))
    ∙ ap (λ v. file_of v.files c.args.name.now) c.self.view_is)

pub returns-in-Some-clause-started : goal.returns-in-Some-clause-started
returns-in-Some-clause-started c = λ _. ap (λ name. Some (name, 0)) (named _ c.args.name.now _ (told_at _ _ _ _ c.deref.ensures.value c.in-Some.ensures))

pub returns-in-None-clause-found : goal.returns-in-None-clause-found
returns-in-None-clause-found c =
    ap is_some (
    sym (absent _ c.args.name.now (told_at _ _ _ _ c.deref.ensures.value c.in-None.ensures))
    ∙ ap (λ v. file_of v.files c.args.name.now) c.self.view_is)
