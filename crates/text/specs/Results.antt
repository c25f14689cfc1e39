-- What a function answers, beside what reading a list of bytes gives. Assumes nothing: these are definitions.
use Rattle.std.specs.Prelude.{◌≡◌, Ok, Err, Result, ⊤}
use Rattle.text.specs.declared.faults.ReadError.{ReadError}
use Rattle.text.specs.declared.faults.ReadError.TheVariants as errors
use Rattle.text.specs.declared.faults.TurnedAway.{TurnedAway}

-- what a function answers, seen by `view`, is what reading gives
abbrev pub Gives : {X Y E : Type 0} → (X → Y) → Result X E → Result Y E → Type 0
Gives view (Ok x) read = read ≡ Ok (view x)
Gives view (Err e) read = read ≡ Err e

-- an error is want of memory, of which nothing is said here; or it is what reading turns a text away with
abbrev pub Fails : {Y : Type 0} → ReadError → Result Y TurnedAway → Type 0
Fails errors.Memory read = ⊤
Fails (errors.TurnedAway t) read = read ≡ Err t

-- what a function answers, seen by `view`, is what reading gives, unless it is want of memory
abbrev pub GivesIfMemory : {X Y : Type 0} → (X → Y) → Result X ReadError → Result Y TurnedAway → Type 0
GivesIfMemory view (Ok x) read = read ≡ Ok (view x)
GivesIfMemory view (Err e) read = Fails e read

-- what a function leaves behind is what reading gives, unless it answers want of memory
abbrev pub LeavesIfMemory : {X Y : Type 0} → Result X ReadError → Result Y TurnedAway → (after : Y) → Type 0
LeavesIfMemory (Ok x) read after = read ≡ Ok after
LeavesIfMemory (Err e) read after = Fails e read
