-- The files of a shelf, where it tells them: a list of names with bytes, in which the first of a name counts.
use Rattle.std.specs.Prelude.{◌≡◌, ℕ, ◌+◌, ◌<◌, List, [], length, drop, find, bytes_eq, Option, None, Some, option_map, unwrap_or, IfSome, IsSomeAnd}

-- a file: its name and its bytes
abbrev pub File : Type 0
File = List ℕ × List ℕ

-- the bytes of the file of this name, if there is one
abbrev pub file_of : List File → List ℕ → Option (List ℕ)
file_of files name = option_map (λ f. f.1) (find (λ f. bytes_eq f.0 name) files)

-- where the files are told, this is the file of that name
abbrev pub IsFile : Option (List File) → List ℕ → List ℕ → Type 0
IsFile files name bytes = IfSome files (λ list. file_of list name ≡ Some bytes)

-- the files are told, and this is the file of that name
abbrev pub Holds : Option (List File) → List ℕ → List ℕ → Type 0
Holds files name bytes = IsSomeAnd files (λ list. file_of list name ≡ Some bytes)

-- the files are told, and none has that name
abbrev pub Lacks : Option (List File) → List ℕ → Type 0
Lacks files name = IsSomeAnd files (λ list. file_of list name ≡ None)

-- where the files are told, the file of that name has over `limit` bytes
abbrev pub IsFileOver : Option (List File) → List ℕ → ℕ → Type 0
IsFileOver files name limit = IfSome files (λ list. IsSomeAnd (file_of list name) (λ bytes. limit < length bytes))

-- the files are told, and the file of that name has over `limit` bytes
abbrev pub HoldsOver : Option (List File) → List ℕ → ℕ → Type 0
HoldsOver files name limit = IsSomeAnd files (λ list. IsSomeAnd (file_of list name) (λ bytes. limit < length bytes))

-- what is started: the name of a file, and how many of its bytes were read
abbrev pub Place : Type 0
Place = List ℕ × ℕ

-- the bytes from a place to the end of its file; none where nothing is started
abbrev pub left_in : List File → Option Place → List ℕ
left_in files None = []
left_in files (Some place) = drop place.1 (unwrap_or (file_of files place.0) [])

-- those bytes, where the files are told
abbrev pub left_at : Option (List File) → Option Place → Option (List ℕ)
left_at files at = option_map (λ list. left_in list at) files

-- the place n bytes further on
abbrev pub moved_on : Option Place → ℕ → Option Place
moved_on at n = option_map (λ place. (place.0, place.1 + n)) at
