use Rattle.std.specs.Prelude.{◌≡◌}
use Rattle.outside.specs.Slots.{Slot, Unopened, SlotState, HasNothingWritten}
use Rattle.outside.specs.declared.devices.Devices.{Devices}
use Rattle.outside.specs.declared.slot.Slot.TheVariants.{Instance, CertIn, CertOut}

-- the device behind a slot
abbrev pub device_of : {D : Type 0} → Devices D → Slot → D
device_of devices Instance = devices.instance
device_of devices CertIn = devices.cert_in
device_of devices CertOut = devices.cert_out

-- the devices with another one behind a slot
abbrev pub with_device : {D : Type 0} → Devices D → Slot → D → Devices D
with_device devices Instance device = record devices { instance = device }
with_device devices CertIn device = record devices { cert_in = device }
with_device devices CertOut device = record devices { cert_out = device }

-- what is so of each device is so of each slot
pub all_unwritten : {D : Type 0} (state : D → SlotState) → ((device : D) → (state device).stage ≡ Unopened → HasNothingWritten (state device)) → (files : Devices D) (slot : Slot) → (state (device_of files slot)).stage ≡ Unopened → HasNothingWritten (state (device_of files slot))
all_unwritten state h files slot = h (device_of files slot)
