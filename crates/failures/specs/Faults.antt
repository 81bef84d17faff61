-- How faults of the steps become faults of a run.
use Rattle.std.specs.Prelude.{ℕ, Bool, true, false}
use Rattle.table_model.specs.declared.faults.QueryFault.{QueryFault}
use Rattle.table_model.specs.declared.faults.QueryFault.TheVariants as query
use Rattle.table_model.specs.declared.faults.LoadFault.{LoadFault}
use Rattle.table_model.specs.declared.faults.LoadFault.TheVariants as load
use Rattle.table_model.specs.declared.faults.TableFault.{TableFault}
use Rattle.streams.specs.declared.put_fault.PutFault.{PutFault}
use Rattle.streams.specs.declared.put_fault.PutFault.TheVariants as put
use Rattle.failures.specs.declared.run_fault.Fault.{Fault}
use Rattle.failures.specs.declared.run_fault.Fault.TheVariants as faults

-- whether a query's fault is that memory ran out
abbrev pub wants_memory : QueryFault → Bool
wants_memory query.OutOfMemory = true
wants_memory _ = false

-- whether a fault of loading is that memory ran out
abbrev pub load_wants_memory : LoadFault → Bool
load_wants_memory load.OutOfMemory = true
load_wants_memory _ = false

-- running out of memory if the Bool says so, else the fault
abbrev pub memory_or : Bool → Fault → Fault
memory_or true fault = faults.Memory
memory_or false fault = fault

-- the fault of a run for a query's fault, which may be running out of memory
abbrev pub of_query : QueryFault → Fault
of_query f = memory_or (wants_memory f) (faults.Query f)

-- the fault of a run for a fault of loading the table at a place, which may be running out of memory
abbrev pub of_load : ℕ → LoadFault → Fault
of_load table f = memory_or (load_wants_memory f) (faults.Load table f)

-- the fault of a run for a fault of loading with its table, which may be running out of memory
abbrev pub of_table : TableFault → Fault
of_table f = of_load f.table f.fault

-- the fault of a run for a fault of writing records
abbrev pub of_put : PutFault → Fault
of_put put.Sink = faults.Sink
of_put put.Memory = faults.Memory
