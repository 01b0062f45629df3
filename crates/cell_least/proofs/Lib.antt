mod Leasts
