use Rattle.init_trace.proofs.ReportRead.{same_report}
use Rattle.init_trace.proofs.law.text_determines_report.Goals as goal

pub returns : goal.returns
returns c = same_report
