use Rattle.std.proofs.Common.{ap}
use Rattle.layer_map.specs.Truth.{formula_of, both, either}
use Rattle.layer_map.proofs.TreeLemmas.{bang_no_room, bang_none, bang_some, group_no_room, group_then, no_word_left, layer_none, layer_some, no_more_factors, next_factor_none, next_factor_some, product_none, product_some, no_more_products, next_product_none, next_product_some, sum_none, sum_some}
use Rattle.layer_map.proofs.building.+expressions.Goals as goal

pub factor-returns-then-room-eq0-clause-tree : goal.factor-returns-then-room-eq0-clause-tree
factor-returns-then-room-eq0-clause-tree t c = λ f tail h named. bang_no_room f tail _ _ _ c.in-Some.ensures.words c.if-room-eq0.true h named

pub factor-returns-in_default-2-clause-tree : goal.factor-returns-in_default-2-clause-tree
factor-returns-in_default-2-clause-tree t c = λ f tail h named. bang_none f tail _ _ _ c.in-Some.ensures.words c.if-room-eq0.false (λ g u k n. rw c.in_default-2.is at (c.in_ok-expr.ensures.tree g u k n)) h named

pub factor-returns-in-Some-clause-tree : goal.factor-returns-in-Some-clause-tree
factor-returns-in-Some-clause-tree t c = λ f tail h named. bang_some f tail _ _ _ _ _ _ c.in-Some.ensures.words c.if-room-eq0.false (ap formula_of c.in_ok-new.ensures.ok) (λ g u k n. rw c.in-Some-2.is at (c.in_ok-expr.ensures.tree g u k n)) h named

pub factor-returns-then-room-eq0-2-clause-tree : goal.factor-returns-then-room-eq0-2-clause-tree
factor-returns-then-room-eq0-2-clause-tree t c = λ f tail h named. group_no_room f tail _ _ _ c.in-Some-behind.ensures.words c.if-room-eq0-2.true h named

pub factor-returns-in-Some-behind-clause-tree : goal.factor-returns-in-Some-behind-clause-tree
factor-returns-in-Some-behind-clause-tree t c = λ f tail h named. group_then _ _ f tail _ _ _ c.in-Some-behind.ensures.words c.if-room-eq0-2.false c.group.ensures.tree h named

pub factor-returns-in_default-next_word-clause-tree : goal.factor-returns-in_default-next_word-clause-tree
factor-returns-in_default-next_word-clause-tree t c = λ f tail h named. no_word_left f tail _ _ c.in_default-next_word.ensures.word c.in_default.ensures.words c.in_default-behind.ensures.words h named

pub factor-returns-in-None-clause-tree : goal.factor-returns-in-None-clause-tree
factor-returns-in-None-clause-tree t c = λ f tail h named. layer_none f tail _ _ _ _ c.in-Some-next_word.ensures.word c.in_default.ensures.words c.in_default-behind.ensures.words c.in-None.ensures h named

pub factor-returns-in-Some-new-clause-tree : goal.factor-returns-in-Some-new-clause-tree
factor-returns-in-Some-new-clause-tree t c = λ f tail h named. layer_some f tail _ _ _ _ _ c.in-Some-next_word.ensures.word c.in_default.ensures.words c.in_default-behind.ensures.words c.in-Some-new.ensures h named

pub more_factors-returns-in_default-clause-tree : goal.more_factors-returns-in_default-clause-tree
more_factors-returns-in_default-clause-tree t c = λ fs tail h ends named. no_more_factors fs tail _ _ _ c.in_default.ensures.words h

pub more_products-returns-in_default-clause-tree : goal.more_products-returns-in_default-clause-tree
more_products-returns-in_default-clause-tree t c = λ ps tail h ends named. no_more_products ps tail _ _ _ c.in_default.ensures.words h

pub more_factors-returns-in_default-2-clause-tree : goal.more_factors-returns-in_default-2-clause-tree
more_factors-returns-in_default-2-clause-tree t c = λ fs tail h ends named. next_factor_none fs tail _ _ _ _ c.in-Some.ensures.words (λ g u k n. rw c.in_default-2.is at (c.in_ok-right.ensures.tree g u k n)) h ends named

pub more_factors-returns-clause-tree : goal.more_factors-returns-clause-tree
more_factors-returns-clause-tree t c = λ fs tail h ends named. next_factor_some _ _ fs tail _ _ _ (formula_of c.args.left) (both (formula_of c.in_ok-new.field-0.value) (formula_of c.in_ok-new-2.field-0.value)) (formula_of c.in_ok-new-2.field-0.value) _ _ c.in-Some.ensures.words (ap (λ e. both (formula_of e) (formula_of c.in_ok-new-2.field-0.value)) c.in_ok-new.ensures.ok) (ap formula_of c.in_ok-new-2.ensures.ok) (λ g u k n. rw c.in-Some-2.is at (c.in_ok-right.ensures.tree g u k n)) c.more_factors.ensures.tree h ends named

pub more_products-returns-in_default-2-clause-tree : goal.more_products-returns-in_default-2-clause-tree
more_products-returns-in_default-2-clause-tree t c = λ ps tail h ends named. next_product_none ps tail _ _ _ _ c.in-Some.ensures.words (λ g u k e n. rw c.in_default-2.is at (c.in_ok-right.ensures.tree g u k e n)) h ends named

pub more_products-returns-clause-tree : goal.more_products-returns-clause-tree
more_products-returns-clause-tree t c = λ ps tail h ends named. next_product_some _ _ ps tail _ _ _ (formula_of c.args.left) (either (formula_of c.in_ok-new.field-0.value) (formula_of c.in_ok-new-2.field-0.value)) (formula_of c.in_ok-new-2.field-0.value) _ _ c.in-Some.ensures.words (ap (λ e. either (formula_of e) (formula_of c.in_ok-new-2.field-0.value)) c.in_ok-new.ensures.ok) (ap formula_of c.in_ok-new-2.ensures.ok) (λ g u k e n. rw c.in-Some-2.is at (c.in_ok-right.ensures.tree g u k e n)) c.more_products.ensures.tree h ends named

pub product-returns-in-None-clause-tree : goal.product-returns-in-None-clause-tree
product-returns-in-None-clause-tree t c = λ p tail h ends named. product_none p tail _ _ (λ g u k n. rw c.in-None.is at (c.in_ok-factor.ensures.tree g u k n)) h ends named

pub product-returns-in-Some-clause-tree : goal.product-returns-in-Some-clause-tree
product-returns-in-Some-clause-tree t c = λ p tail h ends named. product_some _ _ p tail _ _ _ _ (λ g u k n. rw c.in-Some.is at (c.in_ok-factor.ensures.tree g u k n)) c.more_factors.ensures.tree h ends named

pub sum-returns-in-None-clause-tree : goal.sum-returns-in-None-clause-tree
sum-returns-in-None-clause-tree t c = λ p tail h ends named. sum_none p tail _ _ (λ g u k e n. rw c.in-None.is at (c.in_ok-product.ensures.tree g u k e n)) h ends named

pub sum-returns-in-Some-clause-tree : goal.sum-returns-in-Some-clause-tree
sum-returns-in-Some-clause-tree t c = λ p tail h ends named. sum_some _ _ p tail _ _ _ _ (λ g u k e n. rw c.in-Some.is at (c.in_ok-product.ensures.tree g u k e n)) c.more_products.ensures.tree h ends named
