-- What the parts of a kernel in memory mean.
use Rattle.std.specs.Option.{option_map}
use Rattle.init_machine.specs.Kernel.{End, Process}
use Rattle.model_kernel.specs.declared.process.End.{End as EndInMemory}
use Rattle.model_kernel.specs.declared.process.Process.{Process as ProcessInMemory}

abbrev pub end_of : EndInMemory → End
end_of end = record { time = end.time; status = end.status }

abbrev pub process_of : ProcessInMemory → Process
process_of p = record { pid = p.pid; name = p.name; end = option_map end_of p.end; killed = p.killed }
