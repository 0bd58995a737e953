-- What stands where a search found no memory.
use Rattle.std.proofs.Common.{◌≡◌, inl, inr, ◌≤◌, true, Err}
use Rattle.probe_io.specs.Devices.{SinkState}
use Rattle.solve_report.specs.Report.{WritesReportSoFar}
use Rattle.command_base.specs.declared.endings.Stop.TheVariants.{NoMemory}
use Rattle.command_base.specs.Jobs.{Writes}
use Rattle.command_refusals.specs.declared.refusal.Refusal.{Refusal}
use Rattle.solve_command.specs.Search.{Search, solve_texts}

pub so_far : {search : Search} {s t : SinkState} → WritesReportSoFar search.formula search.budget s.written t.written → s.faults ≤ t.faults → (s.strict ≡ true → t.faults ≡ s.faults)
    → Writes {R = Refusal} solve_texts search s t (Err NoMemory)
so_far (inl same) later quiet = record { how = record { out = inl (record { written = same; quiet = record { later = later; quiet = quiet } }) } }
so_far (inr halted) later quiet = record {
  how = record {
    out = inr (record {
      text = halted.text;
      so_far = halted.report;
      out = record { written = halted.written; quiet = record { later = later; quiet = quiet } };
    });
  };
}
