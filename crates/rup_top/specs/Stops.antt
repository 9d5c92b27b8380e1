-- Why a command ends before its last step, by what a step of it answered.
use Rattle.rup_base.specs.declared.fail.Fail.{Fail}
use Rattle.rup_base.specs.declared.fail.Fail.TheVariants as fails
use Rattle.run_setup.specs.declared.reading.ArgsFail.{ArgsFail}
use Rattle.run_setup.specs.declared.reading.ArgsFail.TheVariants as args
use Rattle.rup_top.specs.declared.answer.Stop.{Stop}
use Rattle.rup_top.specs.declared.answer.Stop.TheVariants as stops

abbrev pub stop_of_fail : Fail → Stop
stop_of_fail (fails.Refused refusal) = stops.Refused refusal
stop_of_fail fails.NoMemory = stops.NoMemory

abbrev pub stop_of_args : ArgsFail → Stop
stop_of_args (args.Refused refusal) = stops.Refused refusal
stop_of_args (args.ReadFault word) = stops.ReadFault word
stop_of_args args.NoMemory = stops.NoMemory
