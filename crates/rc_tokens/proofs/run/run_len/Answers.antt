use Rattle.rc_tokens.proofs.Runs.{no_run}
use Rattle.rc_tokens.proofs.run.run_len.Goals as goal

pub returns-in-Backslash : goal.returns-in-Backslash
returns-in-Backslash c = no_run c.args.mode c.args.bytes.now c.in-Backslash.is
