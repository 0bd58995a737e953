-- Linked is an equivalence.
use Rattle.std.proofs.Common.{◌≡◌, inl, inr, Bool, true, List, [], ◌∷◌, ◌++◌, refl, sym, ◌∙◌, subst}
use Rattle.link_classes.specs.Linked.{AreTouching, IsChain, Linked}

pub linked_refl : {A : Type 0} (touch : A → A → Bool) (a : A) → Linked touch a a
linked_refl touch a = record { chain = []; leads = refl }

pub linked_one : {A : Type 0} (touch : A → A → Bool) (a b : A) → AreTouching touch a b → Linked touch a b
linked_one touch a b next = record { chain = b ∷ []; leads = (next, refl) }

pub linked_touch : {A : Type 0} (touch : A → A → Bool) (a b : A) → touch a b ≡ true → Linked touch a b
linked_touch touch a b is = linked_one touch a b (inl is)

chain_more : {A : Type 0} (touch : A → A → Bool) (a b c : A) (first second : List A) → IsChain touch a first b → IsChain touch b second c → IsChain touch a (first ++ second) c
chain_more touch a b c [] second one two = subst (λ x. IsChain touch x second c) (sym one) two
chain_more touch a b c (d ∷ first) second one two = (one.0, chain_more touch d b c first second one.1 two)

pub linked_trans : {A : Type 0} (touch : A → A → Bool) (a b c : A) → Linked touch a b → Linked touch b c → Linked touch a c
linked_trans touch a b c one two = record { chain = one.chain ++ two.chain; leads = chain_more touch a b c one.chain two.chain one.leads two.leads }

next_back : {A : Type 0} (touch : A → A → Bool) (a b : A) → AreTouching touch a b → AreTouching touch b a
next_back touch a b (inl is) = inr is
next_back touch a b (inr is) = inl is

linked_back : {A : Type 0} (touch : A → A → Bool) (a b : A) (chain : List A) → IsChain touch a chain b → Linked touch b a
linked_back touch a b [] leads = subst (λ x. Linked touch x a) leads (linked_refl touch a)
linked_back touch a b (c ∷ chain) leads = linked_trans touch b c a (linked_back touch c b chain leads.1) (linked_one touch c a (next_back touch a c leads.0))

pub linked_sym : {A : Type 0} (touch : A → A → Bool) (a b : A) → Linked touch a b → Linked touch b a
linked_sym touch a b linked = linked_back touch a b linked.chain linked.leads

kept_next : {A B : Type 0} (touch : A → A → Bool) (value : A → B) → ((a b : A) → touch a b ≡ true → value a ≡ value b) → (a b : A) → AreTouching touch a b → value a ≡ value b
kept_next touch value kept a b (inl is) = kept a b is
kept_next touch value kept a b (inr is) = sym (kept b a is)

kept_on : {A B : Type 0} (touch : A → A → Bool) (value : A → B) → ((a b : A) → touch a b ≡ true → value a ≡ value b) → (a b : A) (chain : List A) → IsChain touch a chain b → value a ≡ value b
kept_on touch value kept a b [] leads = λ i. value (leads i)
kept_on touch value kept a b (c ∷ chain) leads = kept_next touch value kept a c leads.0 ∙ kept_on touch value kept c b chain leads.1

-- What is the same of things that touch is the same of linked things.
pub linked_kept : {A B : Type 0} (touch : A → A → Bool) (value : A → B) → ((a b : A) → touch a b ≡ true → value a ≡ value b) → (a b : A) → Linked touch a b → value a ≡ value b
linked_kept touch value kept a b linked = kept_on touch value kept a b linked.chain linked.leads

next_map : {A B : Type 0} (touch : A → A → Bool) (link : B → B → Bool) (f : A → B) → ((a b : A) → touch a b ≡ true → Linked link (f a) (f b)) → (a b : A) → AreTouching touch a b → Linked link (f a) (f b)
next_map touch link f kept a b (inl is) = kept a b is
next_map touch link f kept a b (inr is) = linked_sym link (f b) (f a) (kept b a is)

chain_map : {A B : Type 0} (touch : A → A → Bool) (link : B → B → Bool) (f : A → B) → ((a b : A) → touch a b ≡ true → Linked link (f a) (f b)) → (a b : A) (chain : List A) → IsChain touch a chain b → Linked link (f a) (f b)
chain_map touch link f kept a b [] leads = subst (λ x. Linked link (f a) (f x)) leads (linked_refl link (f a))
chain_map touch link f kept a b (c ∷ chain) leads = linked_trans link (f a) (f c) (f b) (next_map touch link f kept a c leads.0) (chain_map touch link f kept c b chain leads.1)

-- Where what touches in one relation is linked in the other, so is what is linked.
pub linked_map : {A B : Type 0} (touch : A → A → Bool) (link : B → B → Bool) (f : A → B) → ((a b : A) → touch a b ≡ true → Linked link (f a) (f b)) → (a b : A) → Linked touch a b → Linked link (f a) (f b)
linked_map touch link f kept a b linked = chain_map touch link f kept a b linked.chain linked.leads
