-- The cause of a fault in reading a slot is one of the instance's file, or of the certificate's.
use Rattle.outside.specs.declared.slot.Slot.TheVariants as slot
use Rattle.outside.specs.Prelude.{SlotState}
use Rattle.command_runs.specs.Prelude.{Fault, Long, Memory, Read, most_certificate_bytes, HasReadCause, ReadOptions, most_bytes, HasCause}
use Rattle.command_runs.specs.inside.Unread.{IsUnread}

pub instance_cause : (options : ReadOptions) (old new : SlotState) (fault : Fault) → IsUnread slot.Instance most_bytes old new fault
    → HasCause options old new fault
instance_cause options old new (Read slot.Instance) unread = unread.1
instance_cause options old new (Long slot.Instance) unread = unread.1
instance_cause options old new Memory unread = tt
instance_cause options old new (Read _) unread = let e = unread.0 in absurd (cc)
instance_cause options old new (Long _) unread = let e = unread.0 in absurd (cc)
instance_cause options old new _ unread = absurd unread

pub certificate_cause : (old new : SlotState) (fault : Fault) → IsUnread slot.CertIn most_certificate_bytes old new fault
    → HasReadCause old new fault
certificate_cause old new (Read slot.CertIn) unread = unread.1
certificate_cause old new (Long slot.CertIn) unread = unread.1
certificate_cause old new Memory unread = tt
certificate_cause old new (Read _) unread = let e = unread.0 in absurd (cc)
certificate_cause old new (Long _) unread = let e = unread.0 in absurd (cc)
certificate_cause old new _ unread = absurd unread
