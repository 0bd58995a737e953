-- The search over the calls of symbols.
use Rattle.std.proofs.Common.{◌≡◌, ◌⊎◌, inl, inr, ℕ, add-one, get_or, ◌+◌, ◌*◌, ◌<◌, ◌≤◌, length, Bool, true, false, not, cond, ◌||◌, List, [], ◌∷◌, ◌++◌, refl, sym, ap, ◌∙◌, subst, arith, length-append, eqb-true, eq-eqb}
use Rattle.std.specs.Prelude.{◌==◌, nat_eq, Option, Some, None, is_some, IfSome, IfNone, take, count_by}
use Rattle.std.specs.List.{list_any}
use Rattle.std.proofs.Math.Seq.{take-suc}
use Rattle.std.proofs.lemmas.List.Folds.{list_any-append}
use Rattle.std.proofs.lemmas.Option.{none-some}
use Rattle.std.proofs.lemmas.Bool.{false≢true}
use Rattle.plane_geom.proofs.Counting.{count_cons}
use Rattle.indexmap.specs.IndexMap.{IndexMap, get}
use Rattle.cif_reader.specs.declared.file.Symbol.{Symbol}
use Rattle.cif_reader.specs.File.{has_number}
use Rattle.cif_flatten.specs.declared.sizes.Size.{Size}
use Rattle.cif_flatten.specs.declared.sizes.Frame.{Frame}
use Rattle.cif_flatten.specs.Unfolding.{items_of}
use Rattle.cif_flatten.specs.Faults.{calls, CallsAlong, CallsThrough, Recurses, IsNested}
use Rattle.cif_flatten.specs.Sizes.{HasSize, AreSizes, AreSettled, IsWaiting, is_new, count_new, IsFrame, first_number, IsPath, IsOn, Exploring, Explored, AreBegun, HasSizes}
use Rattle.cif_flatten.specs.FileSize.{IsFileSize}
use Rattle.cif_reader.specs.File.{Contents}
use Rattle.cif_reader.proofs.Numbered.{some_any}
use Rattle.cif_flatten.proofs.Nesting.{no_circle}
use Rattle.cif_flatten.proofs.Sizing.{size_nothing, size_undefined, nothing}

-- ---- paths

first_pushed : (fs : List Frame) (t : Frame) (u : ℕ) → first_number (fs ++ t ∷ []) u ≡ first_number fs t.number
first_pushed [] t u = refl
first_pushed (f ∷ fs) t u = refl

path_push : (symbols : List Symbol) (fs : List Frame) (t : Frame) (u : ℕ) → IsPath symbols fs t.number → IsFrame symbols t → calls symbols t.number u ≡ true → IsPath symbols (fs ++ t ∷ []) u
path_push symbols [] t u p f h = (h, f, tt)
path_push symbols (g ∷ fs) t u p f h = (ap (calls symbols g.number) (first_pushed fs t u) ∙ p.0, p.1, path_push symbols fs t u p.2 f h)

record Popped (symbols : List Symbol) (fs : List Frame) (t : Frame) : Type 0 where
  path : IsPath symbols fs t.number
  frame : IsFrame symbols t

more_popped : (symbols : List Symbol) (g : Frame) (fs : List Frame) (t : Frame) → calls symbols g.number (first_number fs t.number) ≡ true → IsFrame symbols g → Popped symbols fs t → Popped symbols (g ∷ fs) t
more_popped symbols g fs t h f p = record { path = (h, f, p.path); frame = p.frame }

path_pop : (symbols : List Symbol) (fs : List Frame) (t : Frame) (u : ℕ) → IsPath symbols (fs ++ t ∷ []) u → Popped symbols fs t
path_pop symbols [] t u p = record { path = tt; frame = p.1 }
path_pop symbols (g ∷ fs) t u p = more_popped symbols g fs t (ap (calls symbols g.number) (sym (first_pushed fs t u)) ∙ p.0) p.1 (path_pop symbols fs t u p.2)

on_top : (u : ℕ) (fs : List Frame) → IsOn u fs u
on_top u [] = refl
on_top u (f ∷ fs) = inr (on_top u fs)

on_push : (n : ℕ) (fs : List Frame) (t : Frame) (u : ℕ) → IsOn n fs t.number → IsOn n (fs ++ t ∷ []) u
on_push n [] t u h = inl h
on_push n (f ∷ fs) t u (inl h) = inl h
on_push n (f ∷ fs) t u (inr h) = inr (on_push n fs t u h)

on_more : (n : ℕ) (f : Frame) (fs : List Frame) (t : Frame) (u : ℕ) → (n ≡ u) ⊎ IsOn n fs t.number → (n ≡ u) ⊎ IsOn n (f ∷ fs) t.number
on_more n f fs t u (inl h) = inl h
on_more n f fs t u (inr h) = inr (inr h)

on_pop : (n : ℕ) (fs : List Frame) (t : Frame) (u : ℕ) → IsOn n (fs ++ t ∷ []) u → (n ≡ u) ⊎ IsOn n fs t.number
on_pop n [] t u (inl h) = inr h
on_pop n [] t u (inr h) = inl h
on_pop n (f ∷ fs) t u (inl h) = inr (inl h)
on_pop n (f ∷ fs) t u (inr h) = on_more n f fs t u (on_pop n fs t u h)

numbers : List Frame → ℕ → List ℕ
numbers [] top = top ∷ []
numbers (f ∷ fs) top = f.number ∷ numbers fs top

along_path : (symbols : List Symbol) (a : ℕ) (fs : List Frame) (top n : ℕ) → calls symbols a (first_number fs top) ≡ true → IsPath symbols fs top → calls symbols top n ≡ true → CallsAlong symbols a (numbers fs top) n
unfolding numbers
along_path symbols a [] top n h p e = (h, e)
along_path symbols a (f ∷ fs) top n h p e = (h, along_path symbols f.number fs top n p.0 p.2 e)

-- A call of a symbol of the path closes a circle.
circle : (symbols : List Symbol) (fs : List Frame) (top n : ℕ) → IsPath symbols fs top → IsOn n fs top → calls symbols top n ≡ true → CallsThrough symbols n n
circle symbols [] top n p on e = record { through = []; along = ap (λ k. calls symbols k n) on ∙ e }
circle symbols (f ∷ fs) top n p (inl is) e = record { through = numbers fs top; along = subst (λ k. CallsAlong symbols k (numbers fs top) n) (sym is) (along_path symbols f.number fs top n p.0 p.2 e) }
circle symbols (f ∷ fs) top n p (inr on) e = circle symbols fs top n p.2 on e

pub recursion : (symbols : List Symbol) (fs : List Frame) (top n : ℕ) → IsPath symbols fs top → IsOn n fs top → calls symbols top n ≡ true → Recurses symbols
recursion symbols fs top n p on e = record { number = n; itself = circle symbols fs top n p on e }

-- ---- how many symbols are not begun

less_case : (t a b : Bool) (m n : ℕ) → (t ≡ true → a ≡ false) → (t ≡ false → a ≡ b) → m ≤ n → cond a 1 0 + m ≤ cond b 1 0 + n
less_case true a b m n f g h = subst (λ (x : Bool). cond x 1 0 + m ≤ cond b 1 0 + n) (sym (f refl)) (omega (arith, h))
less_case false a b m n f g h = subst (λ (x : Bool). cond x 1 0 + m ≤ cond b 1 0 + n) (sym (g refl)) (omega (arith, h))

count_le : {X : Type 0} (t p q : X → Bool) (xs : List X) → ((x : X) → t x ≡ true → p x ≡ false) → ((x : X) → t x ≡ false → p x ≡ q x) → count_by p xs ≤ count_by q xs
count_le t p q [] f g = omega arith
count_le t p q (x ∷ xs) f g = omega (arith, less_case (t x) (p x) (q x) (count_by p xs) (count_by q xs) (f x) (g x) (count_le t p q xs f g), count_cons p x xs, count_cons q x xs)

lt_here : (a b : Bool) (m n : ℕ) → a ≡ false → b ≡ true → m ≤ n → cond a 1 0 + m < cond b 1 0 + n
lt_here a b m n f g h = subst (λ (x : Bool). cond x 1 0 + m < cond b 1 0 + n) (sym f) (subst (λ (y : Bool). 0 + m < cond y 1 0 + n) (sym g) (omega (arith, h)))

lt_there : (t a b : Bool) (m n : ℕ) → (t ≡ true → a ≡ false) → (t ≡ false → a ≡ b) → m < n → cond a 1 0 + m < cond b 1 0 + n
lt_there true a b m n f g h = subst (λ (x : Bool). cond x 1 0 + m < cond b 1 0 + n) (sym (f refl)) (omega (arith, h))
lt_there false a b m n f g h = subst (λ (x : Bool). cond x 1 0 + m < cond b 1 0 + n) (sym (g refl)) (omega (arith, h))

lt_case : (t a b any : Bool) (m n : ℕ) → (t ≡ true → a ≡ false) → (t ≡ true → b ≡ true) → (t ≡ false → a ≡ b) → (t || any) ≡ true → m ≤ n → (any ≡ true → m < n) → cond a 1 0 + m < cond b 1 0 + n
lt_case true a b any m n f k g e le lt = lt_here a b m n (f refl) (k refl) le
lt_case false a b any m n f k g e le lt = lt_there false a b m n f g (lt e)

count_lt : {X : Type 0} (t p q : X → Bool) (xs : List X) → ((x : X) → t x ≡ true → p x ≡ false) → ((x : X) → t x ≡ true → q x ≡ true) → ((x : X) → t x ≡ false → p x ≡ q x) → list_any t xs ≡ true → count_by p xs < count_by q xs
count_lt t p q [] f k g any = absurd (false≢true any)
count_lt t p q (x ∷ xs) f k g any =
    omega (arith, lt_case (t x) (p x) (q x) (list_any t xs) (count_by p xs) (count_by q xs) (f x) (k x) (g x) any (count_le t p q xs f g) (count_lt t p q xs f k g), count_cons p x xs, count_cons q x xs)

-- What an insertion leaves in a table.
by_key : {P : Type 0} (b : Bool) → (b ≡ true → P) → (b ≡ false → P) → P
by_key true f g = f refl
by_key false f g = g refl

some_value : (a b : Option Size) → Some a ≡ Some b → a ≡ b
some_value a b h = cc

size_is : (a b : Size) → Some a ≡ Some b → a ≡ b
size_is a b h = cc

module _ {S : Type 0} (symbols : List Symbol) (before now : IndexMap ℕ (Option Size) S) (number : ℕ) (value : Option Size) (put : (q : ℕ) → get nat_eq now q ≡ cond (nat_eq number q) (Some value) (get nat_eq before q)) where
  is_there : (q : ℕ) → nat_eq number q ≡ true → get nat_eq now q ≡ Some value
  is_there q e = put q ∙ ap (λ b. cond b (Some value) (get nat_eq before q)) e

  is_other : (q : ℕ) → nat_eq number q ≡ false → get nat_eq now q ≡ get nat_eq before q
  is_other q e = put q ∙ ap (λ b. cond b (Some value) (get nat_eq before q)) e

  pub new_le : count_new symbols now ≤ count_new symbols before
  unfolding count_new
  new_le = count_le (λ (s : Symbol). nat_eq number s.number) (is_new now) (is_new before) symbols (λ s e. ap (λ v. not (is_some v)) (is_there s.number e)) (λ s e. ap (λ v. not (is_some v)) (is_other s.number e))

  pub new_lt : get nat_eq before number ≡ None → list_any (has_number number) symbols ≡ true → count_new symbols now < count_new symbols before
  unfolding count_new
  new_lt none any = count_lt (λ (s : Symbol). nat_eq number s.number) (is_new now) (is_new before) symbols (λ s e. ap (λ v. not (is_some v)) (is_there s.number e))
      (λ s e. ap (λ v. not (is_some v)) (ap (get nat_eq before) (sym (eqb-true number s.number e)) ∙ none)) (λ s e. ap (λ v. not (is_some v)) (is_other s.number e)) any

  none_or_some : (q : ℕ) → is_some (get nat_eq before q) ≡ true → is_some (get nat_eq now q) ≡ true
  none_or_some q h = by_key (nat_eq number q) (λ e. ap is_some (is_there q e)) (λ e. ap is_some (is_other q e) ∙ h)

  begun_here : is_some (get nat_eq now number) ≡ true
  begun_here = ap is_some (is_there number (eq-eqb number number refl))

  -- What was begun, or was put there.
  begun_or_put : (q : ℕ) → get nat_eq now q ≡ Some None → ((number ≡ q) × (value ≡ None)) ⊎ (get nat_eq before q ≡ Some None)
  begun_or_put q h = by_key (nat_eq number q) (λ e. inl (eqb-true number q e, some_value _ _ (sym (is_there q e) ∙ h))) (λ e. inr (sym (is_other q e) ∙ h))

  sizes_put : AreSizes symbols before → ((size : Size) → value ≡ Some size → HasSize symbols (items_of symbols number) size) → AreSizes symbols now
  sizes_put sizes new q size h = by_key (nat_eq number q)
      (λ e. subst (λ n. HasSize symbols (items_of symbols n) size) (eqb-true number q e) (new size (some_value _ _ (sym (is_there q e) ∙ h))))
      (λ e. sizes q size (sym (is_other q e) ∙ h))

-- ---- the steps of the search

start_on : {S : Type 0} (table : IndexMap ℕ (Option Size) S) {top start : ℕ} {P : Type 0} (q : ℕ) → ((start ≡ q) × P) ⊎ (get nat_eq table q ≡ Some None) → top ≡ start → AreSettled table → q ≡ top
start_on table q (inl h) is settled = sym (is ∙ h.0)
start_on table q (inr h) is settled = absurd (settled q h)

deeper_on : (q : ℕ) (below : List Frame) (frame top : Frame) (called : ℕ) {P Q : Type 0} → top.number ≡ called → (Q → IsOn q below frame.number) → ((called ≡ q) × P) ⊎ Q → IsOn q (below ++ frame ∷ []) top.number
deeper_on q below frame top called is f (inl h) = subst (λ n. IsOn n (below ++ frame ∷ []) top.number) (is ∙ h.0) (on_top top.number (below ++ frame ∷ []))
deeper_on q below frame top called is f (inr h) = on_push q below frame top.number (f h)

back_on : (q : ℕ) (rest : List Frame) (caller : Frame) (n : ℕ) → (q ≡ n) ⊎ IsOn q rest caller.number → (q ≡ n → ⊥) → IsOn q rest caller.number
back_on q rest caller n (inl h) other = absurd (other h)
back_on q rest caller n (inr h) other = h

module _ {S : Type 0} (symbols : List Symbol) (mid now : IndexMap ℕ (Option Size) S) (number : ℕ) (size : Size) (put : (q : ℕ) → get nat_eq now q ≡ cond (nat_eq number q) (Some (Some size)) (get nat_eq mid q)) where
  still_begun : (q : ℕ) → get nat_eq now q ≡ Some None → get nat_eq mid q ≡ Some None
  still_begun q h = by_key (nat_eq number q) (λ e. absurd (none-some size (sym (some_value _ _ (sym (is_there symbols mid now number (Some size) put q e) ∙ h))))) (λ e. sym (is_other symbols mid now number (Some size) put q e) ∙ h)

  not_done : (q : ℕ) → get nat_eq now q ≡ Some None → q ≡ number → ⊥
  not_done q h is = none-some size (sym (some_value _ _ (sym (is_there symbols mid now number (Some size) put q (eq-eqb number q (sym is))) ∙ h)))

module _ {S : Type 0} (symbols : List Symbol) (start : ℕ) (before mid now : IndexMap ℕ (Option Size) S) where
  pub at_start : AreSizes symbols before → AreSettled before → ((q : ℕ) → get nat_eq now q ≡ cond (nat_eq start q) (Some None) (get nat_eq before q)) → (top : Frame) → top.number ≡ start → IsFrame symbols top
      → Exploring symbols before now start [] top
  at_start sizes settled put top is frame = record {
    sizes = sizes_put symbols before now start None put sizes (λ size h. absurd (none-some size h));
    frame = frame;
    path = tt;
    begun_on = λ q h. start_on before q (begun_or_put symbols before now start None put q h) is settled;
    kept = none_or_some symbols before now start None put;
    begun = begun_here symbols before now start None put;
  }

  pub further : (below : List Frame) (top frame : Frame) → Exploring symbols before mid start below top → frame.number ≡ top.number → IsFrame symbols frame → Exploring symbols before mid start below frame
  further below top frame h is f = record {
    sizes = h.sizes;
    frame = f;
    path = subst (IsPath symbols below) (sym is) h.path;
    begun_on = λ q k. subst (IsOn q below) (sym is) (h.begun_on q k);
    kept = h.kept;
    begun = h.begun;
  }

  pub deeper : (below : List Frame) (frame top : Frame) (called : ℕ) → Exploring symbols before mid start below frame → calls symbols frame.number called ≡ true → top.number ≡ called → IsFrame symbols top
      → ((q : ℕ) → get nat_eq now q ≡ cond (nat_eq called q) (Some None) (get nat_eq mid q)) → Exploring symbols before now start (below ++ frame ∷ []) top
  deeper below frame top called h e is f put = record {
    sizes = sizes_put symbols mid now called None put h.sizes (λ size k. absurd (none-some size k));
    frame = f;
    path = path_push symbols below frame top.number h.path h.frame (ap (calls symbols frame.number) is ∙ e);
    begun_on = λ q k. deeper_on q below frame top called is (h.begun_on q) (begun_or_put symbols mid now called None put q k);
    kept = λ q k. none_or_some symbols mid now called None put q (h.kept q k);
    begun = none_or_some symbols mid now called None put start h.begun;
  }

  pub back : (below rest : List Frame) (frame caller : Frame) → Exploring symbols before mid start below frame → below ≡ rest ++ caller ∷ [] → HasSize symbols (items_of symbols frame.number) frame.size
      → ((q : ℕ) → get nat_eq now q ≡ cond (nat_eq frame.number q) (Some (Some frame.size)) (get nat_eq mid q)) → Exploring symbols before now start rest caller
  back below rest frame caller h is size put =
      let popped = path_pop symbols rest caller frame.number (subst (λ fs. IsPath symbols fs frame.number) is h.path) in
      record {
        sizes = sizes_put symbols mid now frame.number (Some frame.size) put h.sizes (λ s k. subst (HasSize symbols (items_of symbols frame.number)) (size_is _ _ k) size);
        frame = popped.frame;
        path = popped.path;
        begun_on = λ q k. back_on q rest caller frame.number (on_pop q rest caller frame.number (subst (λ fs. IsOn q fs frame.number) is (h.begun_on q (still_begun symbols mid now frame.number frame.size put q k))))
            (not_done symbols mid now frame.number frame.size put q k);
        kept = λ q k. none_or_some symbols mid now frame.number (Some frame.size) put q (h.kept q k);
        begun = none_or_some symbols mid now frame.number (Some frame.size) put start h.begun;
      }

  pub at_end : (below : List Frame) (frame : Frame) → Exploring symbols before mid start below frame → below ≡ [] → HasSize symbols (items_of symbols frame.number) frame.size
      → ((q : ℕ) → get nat_eq now q ≡ cond (nat_eq frame.number q) (Some (Some frame.size)) (get nat_eq mid q)) → Explored symbols before now start
  at_end below frame h is size put = record {
    sizes = sizes_put symbols mid now frame.number (Some frame.size) put h.sizes (λ s k. subst (HasSize symbols (items_of symbols frame.number)) (size_is _ _ k) size);
    settled = λ q k. not_done symbols mid now frame.number frame.size put q k (subst (λ fs. IsOn q fs frame.number) is (h.begun_on q (still_begun symbols mid now frame.number frame.size put q k)));
    kept = λ q k. none_or_some symbols mid now frame.number (Some frame.size) put q (h.kept q k);
    begun = none_or_some symbols mid now frame.number (Some frame.size) put start h.begun;
  }

pub start_frame : (symbols : List Symbol) (number : ℕ) → IsFrame symbols (record { number = number; next = 0; size = nothing })
start_frame symbols number = record { within = omega arith; size = size_nothing symbols }

-- what is known of a symbol that was to be measured first
pub known_called : (P : ℕ → Type 0) (r : Option ℕ) (n : ℕ) → r ≡ Some n → IfSome r P → P n
known_called P r n is h = subst (λ s. IfSome s P) is h

pub met_again : {S : Type 0} (symbols : List Symbol) (start : ℕ) (before mid : IndexMap ℕ (Option Size) S) (below : List Frame) (frame : Frame) (n : ℕ) → Exploring symbols before mid start below frame → calls symbols frame.number n ≡ true
    → IsWaiting symbols mid n → is_some (get nat_eq mid n) ≡ true → Recurses symbols
met_again symbols start before mid below frame n h e (inl begun) has = recursion symbols below frame.number n h.path (h.begun_on n begun) e
met_again symbols start before mid below frame n h e (inr none) has = absurd (false≢true (ap is_some (sym none.0) ∙ has))

pub new_called : {S : Type 0} (symbols : List Symbol) (mid : IndexMap ℕ (Option Size) S) (n : ℕ) → IsWaiting symbols mid n → is_some (get nat_eq mid n) ≡ false → (get nat_eq mid n ≡ None) × (list_any (has_number n) symbols ≡ true)
new_called symbols mid n (inl begun) not = absurd (false≢true (sym not ∙ ap is_some begun))
new_called symbols mid n (inr none) not = none

pub less_pushed : (m n : ℕ) (below pushed : List Frame) (f : Frame) → m < n → pushed ≡ below ++ f ∷ [] → 2 * m + length pushed < 2 * n + length below
less_pushed m n below pushed f h is = omega (arith, h, ap (λ fs. length fs) is, length-append below (f ∷ []))

pub less_popped : (m n : ℕ) (below rest : List Frame) (f : Frame) → m ≤ n → below ≡ rest ++ f ∷ [] → 2 * m + length rest < 2 * n + length below
less_popped m n below rest f h is = omega (arith, h, ap (λ fs. length fs) is, length-append rest (f ∷ []))

pub all_known : (P : Type 0) (r : Option ℕ) → r ≡ None → IfNone r P → P
all_known P r is h = subst (λ s. IfNone s P) is h

-- ---- all symbols

more_case : (a b : Bool) {P : Type 0} → (a || (b || false)) ≡ true → (a ≡ true → P) → (b ≡ true → P) → P
more_case true b h f g = f refl
more_case false true h f g = g refl
more_case false false h f g = absurd (false≢true h)

pub begun_more : {S : Type 0} (symbols : List Symbol) (before now : IndexMap ℕ (Option Size) S) (i : ℕ) (d : Symbol) → i < length symbols → AreBegun (take i symbols) before → Explored symbols before now (get_or symbols i d).number
    → AreBegun (take (i + 1) symbols) now
begun_more symbols before now i d inside begun e = λ n any.
    more_case (list_any (has_number n) (take i symbols)) (n == (get_or symbols i d).number)
    (sym (ap (λ k. list_any (has_number n) (take k symbols)) (add-one i) ∙ ap (list_any (has_number n)) (take-suc symbols i d inside) ∙ list_any-append (has_number n) (take i symbols) (get_or symbols i d ∷ [])) ∙ any)
    (λ h. e.kept n (begun n h))
    (λ h. subst (λ k. is_some (get nat_eq now k) ≡ true) (sym (eqb-true n (get_or symbols i d).number h)) e.begun)

-- Where all is measured nothing waits.
pub none_waits : {S : Type 0} (symbols : List Symbol) (table : IndexMap ℕ (Option Size) S) (n : ℕ) → HasSizes symbols table → IsWaiting symbols table n → ⊥
none_waits symbols table n h (inl begun) = h.settled n begun
none_waits symbols table n h (inr none) = false≢true (ap is_some (sym none.0) ∙ h.begun n none.1)

-- The size of the items of a number.
record Sized (symbols : List Symbol) (number : ℕ) : Type 0 where
  size : Size
  has : HasSize symbols (items_of symbols number) size

sized_case : {S : Type 0} (symbols : List Symbol) (table : IndexMap ℕ (Option Size) S) (n : ℕ) (known : Option (Option Size)) (any : Bool) → HasSizes symbols table → get nat_eq table n ≡ known → list_any (has_number n) symbols ≡ any → Sized symbols n
unfolding nothing
sized_case symbols table n (Some (Some size)) any h is e = record { size = size; has = h.sizes n size is }
sized_case symbols table n (Some None) any h is e = absurd (h.settled n is)
sized_case symbols table n None true h is e = absurd (false≢true (ap is_some (sym is) ∙ h.begun n e))
sized_case symbols table n None false h is e = record { size = nothing; has = size_undefined symbols n (some_any (has_number n) symbols ∙ e) }

pub all_nested : {S : Type 0} (symbols : List Symbol) (table : IndexMap ℕ (Option Size) S) → HasSizes symbols table → IsNested symbols
all_nested symbols table h = record {
  none = λ n through. (let s = sized_case symbols table n (get nat_eq table n) (list_any (has_number n) symbols) h refl refl in no_circle symbols n [] 0 (s.has.placed [] 0) (s.has.unfolds [] 0) through);
}

pub file_size : (file : Contents) (size : Size) → HasSize file.symbols file.top size → IsFileSize file size
file_size file size h = record { placed = h.placed [] 0; unfolded = h.unfolds [] 0; calls = h.calls [] 0; weight = h.weight [] 0 }
