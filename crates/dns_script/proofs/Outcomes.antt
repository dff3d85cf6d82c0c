-- What a refusal says.
use Rattle.std.proofs.Common.{◌≡◌, Err, Option, None}
use Rattle.dns_script.specs.declared.line.LineFault.{LineFault}
use Rattle.dns_script.specs.declared.line.LineFault.TheVariants as line
use Rattle.dns_script.specs.Reading.{Makes, MakesBy}

pub refusal : {A : Type 0} (e : LineFault) (new : A) (Stands : A → Type 0) → e ≡ line.Refused → MakesBy (Err e) new Stands → (next : A) → ¬ (Stands next)
refusal line.Refused new Stands is h = h
refusal line.NoMemory new Stands is h = absurd cc

pub refused : {A : Type 0} (e : LineFault) (new : A) (read : Option A) → e ≡ line.Refused → Makes (Err e) new read → read ≡ None
refused line.Refused new read is h = h
refused line.NoMemory new read is h = absurd cc
