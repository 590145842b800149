-- What has come fits the script.
use Rattle.std.proofs.Common.{◌≤◌, length}
use Rattle.trial.proofs.read_script.Given as goal

abbrev pub invariant-loop : goal.invariant-loop
invariant-loop l = l.held ≤ length l.script
