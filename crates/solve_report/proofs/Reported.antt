-- What was written, as a report, one so far or a prefix of one.
use Rattle.std.proofs.Common.{◌≡◌, ℕ, ℤ, List, [], Option, refl, ◌++◌, sym, subst, inl, inr}
use Rattle.probe_io.specs.Written.{Appends, AppendsFront}
use Rattle.probe_io.proofs.WrittenLemmas.{Appends-then, Appends-front, AppendsFront-more}
use Rattle.clause_base.specs.Formulas.{Clauses}
use Rattle.proof_sinks.specs.Text.{text_of}
use Rattle.conflict_solver.specs.declared.verdict.Verdict.{Verdict}
use Rattle.conflict_solver.specs.declared.verdict.Verdict.TheVariants.{Values, Refuted, Undecided}
use Rattle.conflict_solver.specs.Answering.{IsVerdict, IsAnswered}
use Rattle.conflict_solver.specs.Deriving.{IsProofSoFar}
use Rattle.proof_sinks.specs.declared.lines.Said.{Said}
use Rattle.solve_report.specs.declared.ending.Ending.{Ending}
use Rattle.solve_report.specs.Report.{header, verdict_line, ending_of, SolvesWhereValues, IsSortedForm, IsSolveReport, WritesReport, AppendsReportSoFar, AppendsReportFront}
use Rattle.solve_report.specs.Printing.{WritesProof, WritesProofFront, WritesProofSoFar}
use Rattle.solve_report.proofs.Sorted.{solves_file}

solved : (file formula : Clauses) (budget : ℕ) (lines : List (List ℤ × List ℕ)) (verdict : Verdict) → IsSortedForm file formula
    → IsVerdict formula budget lines verdict → SolvesWhereValues file verdict
solved file formula budget lines (Values values) sorted holds = solves_file file formula values.items sorted holds
solved file formula budget lines Refuted sorted holds = tt
solved file formula budget lines Undecided sorted holds = tt

-- the lines that answer are lines so far
answer_so_far : (formula : Clauses) (budget : ℕ) (said : List Said) (verdict : Verdict) → IsAnswered formula budget said verdict
    → IsProofSoFar formula budget said
answer_so_far formula budget said verdict answered =
    inr (record { lines = answered.lines; whole = answered.whole; derived = answered.derived })

module _ (file formula : Clauses) (budget : ℕ) (sorted : IsSortedForm file formula) where
  is_report : (verdict : Verdict) {old new : Option (List ℕ)} (proof : WritesProof formula budget verdict old new)
      → IsSolveReport file budget (ending_of verdict) (header budget formula ++ (text_of proof.said ++ verdict_line verdict))
  is_report verdict proof = record {
    formula = formula;
    sorted = sorted;
    said = proof.said;
    verdict = verdict;
    answered = proof.answered;
    whole = refl;
    solution = solved file formula budget proof.answered.lines verdict sorted proof.answered.verdict_holds;
    ends = refl;
  }

  -- the header, the proof and the last line
  pub reported : (verdict : Verdict) (ending : Ending) {old headed proved new : Option (List ℕ)} → Appends old headed (header budget formula)
      → WritesProof formula budget verdict headed proved → Appends proved new (verdict_line verdict) → ending ≡ ending_of verdict
      → WritesReport file budget ending old new
  reported verdict ending {old} {headed} {proved} {new} head proof last ends =
      subst (λ e. WritesReport file budget e old new) (sym ends) (record {
        text = header budget formula ++ (text_of proof.said ++ verdict_line verdict);
        report = is_report verdict proof;
        written = Appends-then head (Appends-then proof.written last);
      })

  -- the header, the proof and a prefix of the last line
  pub cut_verdict : (verdict : Verdict) {old headed proved new : Option (List ℕ)} → Appends old headed (header budget formula)
      → WritesProof formula budget verdict headed proved → AppendsFront proved new (verdict_line verdict) → AppendsReportFront file budget old new
  cut_verdict verdict head proof last = record {
    text = header budget formula ++ (text_of proof.said ++ verdict_line verdict);
    report = inr (ending_of verdict, is_report verdict proof);
    written = Appends-front head (Appends-front proof.written last);
  }

  -- the header and a prefix of a proof
  pub cut_proof : {old headed new : Option (List ℕ)} → Appends old headed (header budget formula)
      → WritesProofFront formula budget headed new → AppendsReportFront file budget old new
  cut_proof head proof = record {
    text = header budget formula ++ text_of proof.said;
    report = inl (record { formula = formula; sorted = sorted; said = proof.said; whole = refl; so_far = proof.so_far });
    written = Appends-front head proof.written;
  }

  -- a prefix of the header
  pub cut_header : {old new : Option (List ℕ)} → AppendsFront old new (header budget formula) → AppendsReportFront file budget old new
  cut_header front = record {
    text = header budget formula ++ [];
    report = inl (record { formula = formula; sorted = sorted; said = []; whole = refl; so_far = inl (record { count = 0; front = refl }) });
    written = AppendsFront-more front [];
  }

  -- the header and a proof so far
  pub stopped : {old headed new : Option (List ℕ)} → Appends old headed (header budget formula)
      → WritesProofSoFar formula budget headed new → AppendsReportSoFar file budget old new
  stopped head proof = record {
    text = header budget formula ++ text_of proof.said;
    report = record { formula = formula; sorted = sorted; said = proof.said; whole = refl; so_far = proof.so_far };
    written = Appends-then head proof.written;
  }

  -- the header and a proof, with no last line
  pub unended : (verdict : Verdict) {old headed new : Option (List ℕ)} → Appends old headed (header budget formula)
      → WritesProof formula budget verdict headed new → AppendsReportSoFar file budget old new
  unended verdict head proof = stopped head (record {
    said = proof.said;
    so_far = answer_so_far formula budget proof.said verdict proof.answered;
    written = proof.written;
  })
