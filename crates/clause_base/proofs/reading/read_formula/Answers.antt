use Rattle.std.proofs.Common.{sym, ◌∙◌, subst}
use Rattle.std.proofs.lemmas.Result.{err_from_is_err_and}
use Rattle.clause_base.specs.Readers.{left, IsNumberFault, IsClauseFault}
use Rattle.clause_base.specs.Formulas.{Clauses}
use Rattle.clause_base.specs.FormulaText.{most_vars, most_clauses, SpellsFormula}
use Rattle.clause_base.proofs.ReadingLemmas.{takes_start, takes_more}
use Rattle.clause_base.proofs.FormulaLemmas.{is_formula}
use Rattle.clause_base.proofs.FaultLemmas.{no_p, no_cnf, no_vars, no_count, no_clause, no_end, spelled, syntax_is}
use Rattle.clause_base.proofs.reading.read_formula.Goals as goal

pub returns-in_err-read_keyword-clause-refused : goal.returns-in_err-read_keyword-clause-refused
returns-in_err-read_keyword-clause-refused c =
    let p = err_from_is_err_and c.from_residual.result c.from_residual.ensures.1 in
    rw (p.1, p.2) (λ some. syntax_is c.args.bytes.now _ _ (left c.new-words.result) c.new-words.ensures.end c.in_err-read_keyword.ensures.refused (no_p c.args.bytes.now _ (takes_start c.new-words.ensures.words) c.in_err-read_keyword.ensures.other))

pub returns-in_err-read_keyword-2-clause-refused : goal.returns-in_err-read_keyword-2-clause-refused
returns-in_err-read_keyword-2-clause-refused c =
    let p = err_from_is_err_and c.from_residual-in_err-read_keyword-2.result c.from_residual-in_err-read_keyword-2.ensures.1 in
    let takes = takes_more (takes_start c.new-words.ensures.words) c.in_ok-read_keyword.ensures.taken in
    let end = c.read_keyword.ensures.end ∙ c.new-words.ensures.end in
    rw (p.1, p.2) (λ some. syntax_is c.args.bytes.now _ _ (left c.read_keyword.new.words) end c.in_err-read_keyword-2.ensures.refused (no_cnf c.args.bytes.now _ takes c.in_err-read_keyword-2.ensures.other))

pub returns-in_err-vars-clause-refused : goal.returns-in_err-vars-clause-refused
returns-in_err-vars-clause-refused c =
    let p = err_from_is_err_and c.from_residual-in_err-vars.result c.from_residual-in_err-vars.ensures.1 in
    let takes = takes_more (takes_more (takes_start c.new-words.ensures.words) c.in_ok-read_keyword.ensures.taken) c.in_ok-read_keyword-2.ensures.taken in
    let end = c.read_keyword-2.ensures.end ∙ c.read_keyword.ensures.end ∙ c.new-words.ensures.end in
    rw (p.1, p.2) (λ some. no_vars c.args.bytes.now (left c.read_keyword-2.new.words) _ takes (subst (λ n. IsNumberFault most_vars n (left c.read_keyword-2.new.words) c.in_err-vars.field-0.0) end c.in_err-vars.ensures.refused))

pub returns-in_err-count-clause-refused : goal.returns-in_err-count-clause-refused
returns-in_err-count-clause-refused c =
    let p = err_from_is_err_and c.from_residual-in_err-count.result c.from_residual-in_err-count.ensures.1 in
    let takes = takes_more (takes_more (takes_more (takes_start c.new-words.ensures.words) c.in_ok-read_keyword.ensures.taken) c.in_ok-read_keyword-2.ensures.taken) c.in_ok-vars.ensures.taken in
    let end = c.read_number.ensures.end ∙ c.read_keyword-2.ensures.end ∙ c.read_keyword.ensures.end ∙ c.new-words.ensures.end in
    rw (p.1, p.2) (λ some. no_count c.args.bytes.now c.in_ok-vars.vars (left c.read_number.new.words) _ c.in_ok-vars.ensures.most takes (subst (λ n. IsNumberFault most_clauses n (left c.read_number.new.words) c.in_err-count.field-0.0) end c.in_err-count.ensures.refused))

pub returns-in_err-clauses-clause-refused : goal.returns-in_err-clauses-clause-refused
returns-in_err-clauses-clause-refused c =
    let p = err_from_is_err_and c.from_residual-in_err-clauses.result c.from_residual-in_err-clauses.ensures.1 in
    let takes = takes_more (takes_more (takes_more (takes_more (takes_start c.new-words.ensures.words) c.in_ok-read_keyword.ensures.taken) c.in_ok-read_keyword-2.ensures.taken) c.in_ok-vars.ensures.taken) c.in_ok-count.ensures.taken in
    let end = c.read_number-2.ensures.end ∙ c.read_number.ensures.end ∙ c.read_keyword-2.ensures.end ∙ c.read_keyword.ensures.end ∙ c.new-words.ensures.end in
    rw (p.1, p.2) (no_clause c.args.bytes.now c.in_ok-vars.vars c.in_ok-count.count (left c.read_number-2.new.words) _ c.in_ok-vars.ensures.most c.in_ok-count.ensures.most takes (subst (λ n. IsClauseFault c.in_ok-vars.vars c.in_ok-count.count n (left c.read_number-2.new.words) c.in_err-clauses.field-0.0) end c.in_err-clauses.ensures.refused))

pub returns-in_err-read_end-clause-refused : goal.returns-in_err-read_end-clause-refused
returns-in_err-read_end-clause-refused c =
    let p = err_from_is_err_and c.from_residual-in_err-read_end.result c.from_residual-in_err-read_end.ensures.1 in
    let head = takes_more (takes_more (takes_more (takes_more (takes_start c.new-words.ensures.words) c.in_ok-read_keyword.ensures.taken) c.in_ok-read_keyword-2.ensures.taken) c.in_ok-vars.ensures.taken) c.in_ok-count.ensures.taken in
    let end = c.read_clauses.ensures.end ∙ c.read_number-2.ensures.end ∙ c.read_number.ensures.end ∙ c.read_keyword-2.ensures.end ∙ c.read_keyword.ensures.end ∙ c.new-words.ensures.end in
    rw (p.1, p.2) (λ some. syntax_is c.args.bytes.now _ _ (left c.read_clauses.new.words) end c.in_err-read_end.ensures.refused
    (no_end c.args.bytes.now c.in_ok-vars.vars c.in_ok-count.count c.in_ok-clauses.clauses.items _ c.in_ok-vars.ensures.most c.in_ok-count.ensures.most c.in_ok-clauses.ensures.count c.in_ok-clauses.ensures.literals (takes_more head c.in_ok-clauses.ensures.taken) c.in_err-read_end.ensures.other))

pub returns-clause-accepted : goal.returns-clause-accepted
returns-clause-accepted c =
    let head = takes_more (takes_more (takes_more (takes_more (takes_start c.new-words.ensures.words) c.in_ok-read_keyword.ensures.taken) c.in_ok-read_keyword-2.ensures.taken) c.in_ok-vars.ensures.taken) c.in_ok-count.ensures.taken in
    subst (λ (f : Clauses). SpellsFormula c.args.bytes.now f) (λ i. record { vars = sym c.new.ensures.vars i; clauses = sym c.new.ensures.clauses i })
    (spelled c.args.bytes.now c.in_ok-vars.vars c.in_ok-count.count c.in_ok-clauses.clauses.items (left c.read_clauses.new.words) c.in_ok-vars.ensures.most c.in_ok-count.ensures.most c.in_ok-clauses.ensures.count c.in_ok-clauses.ensures.literals (takes_more head c.in_ok-clauses.ensures.taken) c.in_ok-read_end.ensures.end)

pub new-requires : goal.new-requires
new-requires c = is_formula c.in_ok-vars.vars c.in_ok-count.count c.in_ok-clauses.clauses.items c.in_ok-vars.ensures.most c.in_ok-count.ensures.most c.in_ok-clauses.ensures.count c.in_ok-clauses.ensures.literals
