mod Printed
mod Poked
