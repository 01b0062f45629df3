-- What is printed of a fault in reading a slot.
use Rattle.std.specs.Prelude.{ℕ, List, codes}
use Rattle.outside.specs.declared.reading.SlurpFault.{SlurpFault}
use Rattle.outside.specs.declared.reading.SlurpFault.TheVariants.{Failed, TooLong, NoMemory}

abbrev pub text_of : SlurpFault → List ℕ
text_of Failed = codes "reading failed"
text_of TooLong = codes "more bytes came than allowed"
text_of NoMemory = codes "memory was refused"
